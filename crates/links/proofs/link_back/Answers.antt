-- `links::link_back` meets its contract. Assumes nothing.
use mathlib.Core.Path.{◌≡◌, sym, ◌∙◌}
use Prim.Native.Nat.{◌+◌, ◌-◌, ◌*◌}
use native.Mathlib.Omega.{arith}
use Rattle.rules.specs.Distance.{between}
use Rattle.rows.proofs.Laws.{RowIn, row-at}
use Rattle.links.proofs.Slots.{lent-sound, linked_known, linked_offered}
use borrow.Author.Rules.{rules}
use Rattle.links.proofs.link_back.Goals.{Start}
use Rattle.links.proofs.link_back.Goals as goal

-- the row of the entry's node
top : (start : Start) → RowIn start.args.counters.n start.args.index_size start.args.e.node.0
top start = row-at start.requires.room.most start.requires.room.wide start.requires.within.1

pub returns-then-is_linked : goal.returns-then-is_linked
returns-then-is_linked c =
    let pre = c.requires in
    let n = c.args.counters.n in
    let w = c.args.index_size in
    linked_known n w c.args.nodes.now c.args.dists.now (between c.args.counters.lanes.now c.args.counters.dimension) c.args.threshold c.args.v.0 c.args.e pre.room.nodes pre.room.dists pre.within.1 pre.within.2 (sym c.is_linked.ensures ∙ c.if-is_linked.true)

pub offer-requires : goal.offer-requires
offer-requires c =
    let pre = c.requires in
    let n = c.args.counters.n in
    let w = c.args.index_size in
    let q = c.args.e.node.0 in
    let fits = top (goal.at.offer-requires c).Start in
    let wide : q * w + w - q * w ≡ w = omega arith in
    record { within = (pre.within.0, lent-sound n w c.args.nodes.now c.args.dists.now (between c.args.counters.lanes.now c.args.counters.dimension) c.args.threshold c.args.v.0 c.args.e pre.room.nodes pre.room.dists pre.within.1 pre.within.2 (q * w + w - q * w) wide); row = search rules }

pub returns : goal.returns
returns c =
    let pre = c.requires in
    let n = c.args.counters.n in
    let w = c.args.index_size in
    let q = c.args.e.node.0 in
    let fits = top (goal.at.returns c).Start in
    let wide : q * w + w - q * w ≡ w = omega arith in
    linked_offered n w c.args.nodes.now c.args.dists.now (between c.args.counters.lanes.now c.args.counters.dimension) c.args.threshold c.args.v.0 c.args.e pre.room.nodes pre.room.dists pre.within.1 pre.within.2 (sym c.is_linked.ensures ∙ c.if-is_linked.false) pre.within.0 _ wide _ _ (search rules) (search rules) c.offer.ensures
