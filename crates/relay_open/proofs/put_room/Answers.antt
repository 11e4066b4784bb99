-- `relay_open::put_room` meets its contract: the front copied, the rest zeroed. Assumes nothing.
use mathlib.Core.Path.{refl, ap}
use mathlib.Core.List.{List, ◌++◌}
use lib.ListN.{length, drop}
use Rattle.relay_open.proofs.Rooms.{roomed}
use Rattle.relay_open.proofs.put_room.Goals as goal

pub returns : goal.returns
returns g c =
    let p = c.requires in
    let list = c.args.list.now in
    let room = c.args.room.now in
    roomed c.args.zero _ list room (c.copy_all.new.dst ++ drop (length list) room) c.fill.new.self p.long
    (ap (λ (l : List g.row.T.Denot). l ++ drop (length list) room) c.copy_all.ensures.after) refl (c.fill.ensures.after p.copies.1)
