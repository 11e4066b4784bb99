-- What the search leaves of `descent_state::spare_clear`.
use mathlib.Core.Path.{refl}
use native.Mathlib.Omega.{arith}
use Rattle.descent_state.proofs.Spare.{clear_none, clear_turn, clear-not}
use Rattle.descent_state.proofs.spare_clear.Goals as goal

pub loop-j-init : goal.loop-j-init
loop-j-init c = clear_none (let l = c.requires.1 in omega arith) refl

pub returns-then-bit_at : goal.returns-then-bit_at
returns-then-bit_at c = clear-not c.loop-j.invariant c.loop-j-test.true c.bit_at.ensures c.if-bit_at.true

pub loop-j-preserved : goal.loop-j-preserved
loop-j-preserved c = clear_turn c.loop-j.invariant c.loop-j-test.true c.bit_at.ensures c.if-bit_at.false
