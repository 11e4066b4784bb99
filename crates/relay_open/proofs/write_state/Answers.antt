-- `relay_open::write_state` meets its contract: the lists, their distances, and the jobs. Assumes nothing.
use mathlib.Core.Path.{refl}
use Rattle.rules.specs.Distance.{between}
use Rattle.relay_open.proofs.State.{jobs-room, state-written}
use Rattle.relay_open.proofs.write_state.Goals as goal

pub returns : goal.returns
returns c =
    let p = c.requires.lanes_len in
    let q = c.requires.nodes_len in
    let room = jobs-room _ _ _ _ q.0 q.1 (between c.args.counters.lanes.now c.args.counters.dimension) c.args.jobs.now p.1 c.write_lists.ensures c.write_dists.ensures _ _ refl refl in
    state-written _ _ _ _ q.0 q.1 _ _ p.1 c.write_lists.ensures c.write_dists.ensures _ _ room.0 room.1 c.write_jobs.ensures
