-- `relay_state::pending_at` meets its contract: the jobs before the i-th are counted. Assumes nothing.
use Rattle.relay_state.specs.State.{PendingAll}
use Rattle.relay_state.proofs.pending_at.Given as goal

abbrev pub invariant-loop-i : goal.invariant-loop-i
invariant-loop-i l = PendingAll l.jobs l.i l.w.0 l.total
