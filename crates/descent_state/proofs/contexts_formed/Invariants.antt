-- `descent_state::contexts_formed` meets its contract: the lists so far are well formed. Assumes nothing.
use Rattle.descent_state.proofs.Contexts.{Forming}
use Rattle.descent_state.proofs.contexts_formed.Given as goal

abbrev pub invariant-loop-i : goal.invariant-loop-i
invariant-loop-i l = Forming l.n l.count l.words l.i
