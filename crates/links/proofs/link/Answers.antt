-- `links::link` meets its contract. Assumes nothing.
use mathlib.Core.Path.{◌≡◌, ap, ◌∙◌}
use Prim.Native.Nat.{ℕ, ◌*◌, ◌<◌}
use lib.ListN.{get_or}
use Rattle.rules.specs.declared.Neighbor.{Neighbor}
use Rattle.rules.specs.Distance.{between}
use Rattle.rules.specs.Lists.{entries}
use Rattle.rules.specs.Rows.{is_empty, empty_slot}
use Rattle.rules.specs.Build.{slot_read}
use Rattle.links.proofs.Slots.{slot_within, slot_below, link_empty, link_on}
use Rattle.links.proofs.link.Goals.{After-entry_in-e, Start}
use Rattle.links.proofs.link.Goals as goal

-- the slot that is read is among the slots, and the entry is the one that stands in it
within : (start : Start) → slot_read start.args.index_size start.args.v.0 start.args.i < start.args.counters.n * start.args.index_size
within start = slot_within start.requires.within.0 start.requires.within.1

abbrev stands : After-entry_in-e → ℕ → Neighbor
stands start s = get_or (entries (start.args.counters.n * start.args.index_size) start.args.nodes.now start.args.dists.now) s (empty_slot 0)

read : (c : After-entry_in-e) → c.entry_in-e.result ≡ stands c (slot_read c.args.index_size c.args.v.0 c.args.i)
read c = c.entry_in-e.ensures ∙ ap (stands c) c.slot_read-slot.ensures

pub returns-then-e : goal.returns-then-e
unfolding is_empty
returns-then-e c =
    link_empty _ _ _ _ _ _ c.requires.within.2 (read (goal.at.returns-then-e c).After-entry_in-e) (between c.args.counters.lanes.now c.args.counters.dimension) c.args.threshold c.if-e.true

pub link_back-requires : goal.link_back-requires
unfolding is_empty
link_back-requires c =
    let pre = c.requires in
    record { within = (pre.within.0, slot_below _ _ _ _ _ _ pre.within.2 (read (goal.at.link_back-requires c).After-entry_in-e) pre.room.nodes pre.room.dists (within (goal.at.link_back-requires c).Start) c.if-e.false, pre.within.2); room = pre.room }

pub returns : goal.returns
unfolding is_empty
returns c =
    link_on _ _ _ _ _ _ c.requires.within.2 (read (goal.at.returns c).After-entry_in-e) (between c.args.counters.lanes.now c.args.counters.dimension) c.args.threshold c.if-e.false c.link_back.ensures
