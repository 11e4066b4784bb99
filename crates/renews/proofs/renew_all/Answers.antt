-- What the search leaves of `renews::renew_all`.
use mathlib.Core.Path.{◌≡◌}
use Prim.Native.Nat.{◌+◌, ◌-◌, ◌*◌}
use native.Mathlib.Omega.{arith}
use Rattle.renews.proofs.All.{renews_none, renews_more}
use Rattle.renews.proofs.renew_all.Goals as goal

pub loop-i-init : goal.loop-i-init
loop-i-init c = (c.requires.1, renews_none _)

pub loop-i-preserved : goal.loop-i-preserved
loop-i-preserved c =
    let i = c.loop-i.i in
    let p = c.requires in
    let e : 260 * i + 65 - 260 * i ≡ 65 = omega arith in
    let f : 260 * i + 65 + 65 - (260 * i + 65) ≡ 65 = omega arith in
    (c.renew_old.ensures.found_long, renews_more c.loop-i.invariant.1 c.loop-i-test.true p.2 e f c.renew_new-so_far.ensures c.renew_old.ensures)
