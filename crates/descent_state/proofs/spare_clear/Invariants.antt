-- `descent_state::spare_clear` meets its contract: the bits so far are clear. Assumes nothing.
use Rattle.descent_state.proofs.Spare.{Clear}
use Rattle.descent_state.proofs.spare_clear.Given as goal

abbrev pub invariant-loop-j : goal.invariant-loop-j
invariant-loop-j l = Clear l.n l.used l.spare l.words l.j
