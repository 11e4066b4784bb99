-- What the search leaves of `exact::distances_eight`.
use mathlib.Core.Path.{◌∙◌}
use Rattle.exact.proofs.Eights.{eight_more}
use Rattle.exact.proofs.distances_eight.Goals as goal

pub loop-i-preserved : goal.loop-i-preserved
loop-i-preserved c =
    let args = c.args in
    (c.put_eight.ensures.long ∙ c.loop-i.invariant.0, eight_more args.counters.lanes.now args.counters.dimension args.counters.n args.base _ _ c.totals8-totals.result _ _ c.loop-i.i c.block_of-block.ensures c.lanes_of-y.ensures.contents c.lanes_of-y.ensures.long c.totals8-totals.ensures c.put_eight.ensures c.loop-i.invariant.1)
