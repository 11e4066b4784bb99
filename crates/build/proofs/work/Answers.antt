-- `build::work` meets its contract: steps 1 to 6, and scratch zeroed. Assumes nothing.
use mathlib.Core.Path.{refl}
use Rattle.build.proofs.Steps.{slots-sound, slots-room, worked}
use Rattle.build.proofs.work.Goals as goal

pub link_all-requires : goal.link_all-requires
link_all-requires c =
    let p = c.requires in
    let s = c.slots.ensures in
    record { within = slots-sound p s; room = slots-room p s refl }

pub returns : goal.returns
returns c =
    let linked = c.link_all in
    worked c.requires c.slots.ensures linked.ensures c.finish.ensures linked.auto.pool_nodes linked.auto.dists c.zero_words.ensures c.zero_floats.ensures
