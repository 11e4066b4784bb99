-- `hops::clear` meets its contract: the flags of the nodes passed are cleared. Assumes nothing.
use Rattle.hops.proofs.Laws.{Cleared}
use Rattle.hops.proofs.clear.Given as goal

abbrev pub invariant-loop-v : goal.invariant-loop-v
invariant-loop-v l = Cleared l.initial.flags l.v-items l.flags l.v-index
