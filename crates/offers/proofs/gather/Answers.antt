-- `offers::gather` meets its contract. Assumes nothing.
use Rattle.offers.proofs.Laws.{gathered}
use Rattle.offers.proofs.gather.Goals as goal

pub returns : goal.returns
returns c =
    let pre = c.requires in
    gathered c.args.w _ _ _ _ c.args.offer pre.nodes pre.dists pre.pool_nodes pre.pool_dists c.copy_words.ensures c.copy_floats.ensures c.sort.ensures
