-- `renews::gather` meets its contract: the entries passed are gathered. Assumes nothing.
use Rattle.renews.proofs.Laws.{Gathering}
use Rattle.renews.proofs.gather.Given as goal

abbrev pub invariant-loop-v : goal.invariant-loop-v
invariant-loop-v l = Gathering l.n l.k l.i.0 l.visited l.words l.out l.len l.v-index
