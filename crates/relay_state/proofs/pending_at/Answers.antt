-- What the search leaves of `relay_state::pending_at`.
use Rattle.relay_state.proofs.Parts.{pending_start, pending_turn}
use Rattle.relay_state.proofs.pending_at.Goals as goal

pub loop-i-init : goal.loop-i-init
loop-i-init c = pending_start _ _

pub loop-i-preserved : goal.loop-i-preserved
loop-i-preserved c = pending_turn c.loop-i.invariant c.pending-total.ensures
