-- `offers::offer` meets its contract. Assumes nothing.
use mathlib.Core.Path.{◌∙◌}
use Rattle.rules.specs.Distance.{between}
use Rattle.offers.proofs.Laws.{offered_full, offered_lost, offered-last, sound-row}
use borrow.Author.Rules.{rules}
use Rattle.offers.proofs.offer.Goals as goal

pub offer_full-requires : goal.offer_full-requires
offer_full-requires c =
    let pre = c.requires in
    record { within = (pre.within.0, sound-row c.args.counters.n c.live_len-live.ensures _ pre.row.nodes pre.row.dists (search rules) pre.within.1); row = search rules }

pub returns-then-w-live : goal.returns-then-w-live
returns-then-w-live c =
    let row = c.requires.row in
    c.offer_full.ensures ∙ offered_full c.live_len-live.ensures _ row.nodes row.dists (between c.args.counters.lanes.now c.args.counters.dimension) c.args.threshold c.args.offer (search rules)

pub returns-else-live-w : goal.returns-else-live-w
returns-else-live-w c =
    let row = c.requires.row in
    offered_lost c.live_len-live.ensures _ row.nodes row.dists (between c.args.counters.lanes.now c.args.counters.dimension) c.args.threshold c.args.offer (search rules) c.if-live-w.false

pub returns-then-live-w : goal.returns-then-live-w
returns-then-live-w c =
    let row = c.requires.row in
    offered-last c.live_len-live.ensures _ row.nodes row.dists (between c.args.counters.lanes.now c.args.counters.dimension) c.args.threshold c.args.offer c.if-live-w.true
