-- What the search leaves of `begins::begin_contexts`.
use mathlib.Core.Path.{◌≡◌}
use Prim.Native.Nat.{◌+◌, ◌-◌, ◌*◌}
use native.Mathlib.Omega.{arith}
use Rattle.begins.proofs.Laws.{beginning_none, beginning_turn}
use Rattle.begins.proofs.begin_contexts.Goals as goal

pub loop-i-init : goal.loop-i-init
loop-i-init c = beginning_none c.requires.0

pub loop-i-preserved : goal.loop-i-preserved
loop-i-preserved c = let i = c.loop-i.i in let e : 260 * i + 260 - 260 * i ≡ 260 = omega arith in beginning_turn c.loop-i.invariant e c.loop-i-test.true c.begin_context.auto.words c.begin_context.ensures
