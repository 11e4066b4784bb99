-- What the search leaves of `relay_orders::order::fill_by_rule`.
use Rattle.std.proofs.Common.{arith}
use Rattle.relay_orders.proofs.Laws.{filling_none, filling_turn, filling_end, ruled_none, ruled_turn, ruled-end}
use Rattle.relay_orders.proofs.order.fill_by_rule.Goals as goal

pub loop-i-init : goal.loop-i-init
loop-i-init c = filling_none (ruled_none _ _ _ _ _)

pub loop-i-preserved : goal.loop-i-preserved
loop-i-preserved c =
    let here = c.loop-i-test.true in
    filling_turn c.loop-i.invariant (ruled_turn _ _ _ _ _ _ c.job_of.ensures here) here

pub returns : goal.returns
returns c =
    let long = c.loop-i.invariant.long in
    filling_end c.loop-i.invariant (ruled-end _ _ _ _ _ _ (omega arith)) (omega arith)
