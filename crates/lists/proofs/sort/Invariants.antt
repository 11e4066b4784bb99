-- `lists::sort` meets its contract. The loop's invariant: to insert the entries that are left gives the whole sort. Assumes nothing.
use Rattle.lists.proofs.Slices.{Sorting}
use Rattle.lists.proofs.sort.Given as goal

abbrev pub invariant-loop-done : goal.invariant-loop-done
invariant-loop-done l = Sorting l.initial.nodes l.initial.dists l.len l.nodes l.dists l.done
