-- What the search leaves of `backs::back_members`.
use mathlib.Core.Path.{refl}
use native.Mathlib.Omega.{arith}
use Rattle.backs.proofs.Laws.{filled_from, backing_none, backing_turn}
use Rattle.backs.proofs.back_members.Goals as goal

pub loop-i-init : goal.loop-i-init
loop-i-init c = backing_none

pub loop-i-preserved : goal.loop-i-preserved
loop-i-preserved c =
    let p = c.requires in
    let room = p.4 in
    let inv = c.loop-i.invariant in
    let most = inv.most in
    let long = inv.long in
    let below = c.loop-i-test.true in
    let short = p.3 c.loop-i.i below in
    backing_turn inv below refl short (filled_from (omega arith) (omega arith) (c.fill.ensures.after (λ y e. e)))
