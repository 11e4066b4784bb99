-- `lists::place_of` meets its contract. The loop's invariant: the place is `i` and what it is in the entries that are left. Assumes nothing.
use Rattle.lists.proofs.Slices.{Passed}
use Rattle.lists.proofs.place_of.Given as goal

abbrev pub invariant-loop-i : goal.invariant-loop-i
invariant-loop-i l = Passed l.nodes l.dists l.len l.e l.i
