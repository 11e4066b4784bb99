-- `offers::offer_full` meets its contract. Assumes nothing.
use Rattle.rules.specs.Distance.{between}
use Rattle.offers.proofs.Laws.{pool_below, full_all, full_some}
use borrow.Author.Rules.{rules}
use Rattle.offers.proofs.offer_full.Goals as goal

pub choose-kept-requires : goal.choose-kept-requires
choose-kept-requires c =
    let pre = c.requires in
    record {
      within = (pool_below c.args.w c.args.nodes.now c.args.dists.now c.args.offer c.gather.ensures c.args.counters.n pre.within.1 pre.within.0);
      len_in_bounds = search rules;
      index_size_in_bounds = search rules;
    }

pub returns-else-kept-w : goal.returns-else-kept-w
returns-else-kept-w c =
    let row = c.requires.row in
    full_all c.args.w c.args.nodes.now c.args.dists.now c.args.offer c.gather.ensures (between c.args.counters.lanes.now c.args.counters.dimension) c.args.threshold c.choose-kept.ensures row.nodes row.dists (search rules)

pub returns-then-kept-w : goal.returns-then-kept-w
returns-then-kept-w c =
    let row = c.requires.row in
    full_some c.args.w c.args.nodes.now c.args.dists.now c.args.offer c.gather.ensures (between c.args.counters.lanes.now c.args.counters.dimension) c.args.threshold c.choose-kept.ensures row.nodes row.dists (search rules)
