-- What the search leaves of `relay_open::put_rooms`.
use mathlib.Core.Path.{◌≡◌}
use Prim.Native.Nat.{◌+◌, ◌-◌, ◌*◌}
use native.Mathlib.Omega.{arith}
use Rattle.relay_open.proofs.Rooms.{rooms_none, rooms_turn}
use Rattle.relay_open.proofs.put_rooms.Goals as goal

pub loop-w-init : goal.loop-w-init
loop-w-init g c = let p = c.requires.long in rooms_none c.args.zero _ _ p.0 p.1 _ p.2 _ p.3

pub loop-w-preserved : goal.loop-w-preserved
loop-w-preserved g c =
    let p = c.requires.long in
    let w = c.loop-w.w in
    let k = c.args.k in
    let e : w * (k + 64) + (k + 64) - w * (k + 64) ≡ k + 64 = omega arith in
    let f : w * k + k - w * k ≡ k = omega arith in
    rooms_turn c.args.zero _ _ p.0 p.1 c.args.lists.now p.2 c.loop-w.invariant c.loop-w-test.true _ _ f e c.put_room.ensures
