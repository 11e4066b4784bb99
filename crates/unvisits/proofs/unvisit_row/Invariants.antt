-- `unvisits::unvisit_row` meets its contract. Assumes nothing.
use Rattle.unvisits.proofs.Laws.{Row}
use Rattle.unvisits.proofs.unvisit_row.Given as goal

abbrev pub invariant-loop-v : goal.invariant-loop-v
invariant-loop-v l = Row l.base l.n l.i.0 l.vs l.initial.words l.words l.v-index
