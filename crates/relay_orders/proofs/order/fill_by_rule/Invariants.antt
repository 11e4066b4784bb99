-- `relay_orders::order::fill_by_rule` meets its contract: the first `i` places are filled. Assumes nothing.
use Rattle.std.proofs.Common.{◌-◌, length}
use Rattle.relay_orders.specs.Order.{ruled}
use Rattle.relay_orders.proofs.Laws.{Filling}
use Rattle.relay_orders.proofs.order.fill_by_rule.Given as goal

abbrev pub invariant-loop-i : goal.invariant-loop-i
invariant-loop-i l = Filling (ruled l.kind l.count (length l.initial.order) l.initial.up l.initial.down) l.initial.order l.order l.i (ruled l.kind l.count (length l.initial.order - l.i) l.up l.down)
