-- What the search leaves of `relay_state::rooms_formed`.
use mathlib.Core.Path.{◌≡◌, sym, ◌∙◌}
use Prim.Native.Nat.{◌+◌, ◌-◌, ◌*◌}
use native.Mathlib.Omega.{arith}
use Rattle.zeros.proofs.Laws.{all_none}
use Rattle.relay_state.proofs.Parts.{room-not, room_turn}
use Rattle.relay_state.proofs.rooms_formed.Goals as goal

pub loop-w-init : goal.loop-w-init
loop-w-init c = all_none _

pub returns-then-not-room_formed : goal.returns-then-not-room_formed
returns-then-not-room_formed c =
    let p = c.requires in
    let w = c.loop-w.w in
    let k = c.args.k in
    let e : w * (k + 64) + (k + 64) - w * (k + 64) ≡ k + 64 = omega arith in
    room-not p.0 _ p.1 p.2 w _ _ c.loop-w-test.true e c.pending_at.ensures (sym c.room_formed.ensures ∙ c.if-not-room_formed.true)

pub loop-w-preserved : goal.loop-w-preserved
loop-w-preserved c =
    let p = c.requires in
    let w = c.loop-w.w in
    let k = c.args.k in
    let e : w * (k + 64) + (k + 64) - w * (k + 64) ≡ k + 64 = omega arith in
    room_turn p.0 _ p.1 p.2 w _ _ c.loop-w-test.true e c.pending_at.ensures c.loop-w.invariant (sym c.room_formed.ensures ∙ c.if-not-room_formed.false)
