-- `relay_orders::order::fill_drawn` meets its contract. Assumes nothing.
use Rattle.std.proofs.Common.{rules}
use Rattle.relay_orders.specs.Order.{below}
use Rattle.relay_orders.proofs.order.fill_drawn.Goals as goal

pub returns : goal.returns
returns c = c.fill_from.ensures (below c.args.limit) (λ x r fits e. search rules)
