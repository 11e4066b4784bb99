-- What the search leaves of `backs::put_back`.
use mathlib.Core.Path.{◌≡◌}
use Prim.Native.Nat.{◌+◌, ◌-◌, ◌*◌}
use native.Mathlib.Omega.{arith}
use Rattle.backs.proofs.Laws.{putting_turn}
use Rattle.backs.proofs.put_back.Goals as goal

pub loop-i-preserved : goal.loop-i-preserved
loop-i-preserved c = let p = c.requires in let i = c.loop-i.i in let at = c.args.at in let e : 260 * i + at + 65 - (260 * i + at) ≡ 65 = omega arith in putting_turn c.loop-i.invariant e c.loop-i-test.true p.1 p.2 c.put_members.auto.dst c.put_members.ensures
