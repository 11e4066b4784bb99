-- `unvisits::unvisit_all` meets its contract. Assumes nothing.
use Rattle.visits.specs.Marks.{Marked}
use Rattle.unvisits.specs.Unvisits.{unvisit_each}
use Rattle.unvisits.proofs.unvisit_all.Given as goal

abbrev pub invariant-loop-i : goal.invariant-loop-i
invariant-loop-i l = Marked l.base l.n (unvisit_each l.n l.contexts l.i) l.initial.words l.words
