-- What the search leaves of `relay_orders::order::fill_from`.
use Rattle.std.proofs.Common.{ap, ◌∙◌}
use Rattle.relay_orders.specs.Order.{drawn}
use Rattle.relay_orders.proofs.Laws.{filling_none, filling_turn, filling_end, drawn_none, drawn_turn, drawn-end}
use Rattle.relay_orders.proofs.order.fill_from.Goals as goal

pub loop-i-init : goal.loop-i-init
loop-i-init g c = λ made gives. filling_none (drawn_none made _ _)

pub loop-i-preserved : goal.loop-i-preserved
loop-i-preserved g c = λ made gives.
    let here = c.loop-i-test.true in
    let x = c.after-x-in-loop-i in
    filling_turn (c.loop-i.invariant made gives) (drawn_turn made _ _ _ x.ensures (gives x.result c.of.result x.type_inv c.of.ensures) here) here

pub returns : goal.returns
returns g c = λ made gives.
    let over = c.loop-i-test.false in
    filling_end (c.loop-i.invariant made gives) (drawn-end made _ _ _ over) over ∙ ap (drawn made _) c.after-x.ensures
