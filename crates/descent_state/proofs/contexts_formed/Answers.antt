-- What the search leaves of `descent_state::contexts_formed`.
use mathlib.Core.Path.{◌≡◌, refl}
use Prim.Native.Nat.{◌+◌, ◌-◌, ◌*◌}
use native.Mathlib.Omega.{arith}
use borrow.Author.Tests.{not-true, not-false}
use Rattle.descent_state.proofs.Contexts.{forming_none, forming_turn, forming_not}
use Rattle.descent_state.proofs.contexts_formed.Goals as goal

pub loop-i-init : goal.loop-i-init
loop-i-init c = forming_none refl

pub returns-then-not-members_formed : goal.returns-then-not-members_formed
returns-then-not-members_formed c = let i = c.loop-i.i in let e : i * 65 + 65 - i * 65 ≡ 65 = omega arith in forming_not c.loop-i.invariant _ e c.loop-i-test.true c.members_formed.ensures (not-true _ c.if-not-members_formed.true-raw)

pub loop-i-preserved : goal.loop-i-preserved
loop-i-preserved c = let i = c.loop-i.i in let e : i * 65 + 65 - i * 65 ≡ 65 = omega arith in forming_turn c.loop-i.invariant _ e c.loop-i-test.true c.members_formed.ensures (not-false _ c.if-not-members_formed.false-raw)
