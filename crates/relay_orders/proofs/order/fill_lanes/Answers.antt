-- `relay_orders::order::fill_lanes` meets its contract. Assumes nothing.
use Rattle.std.proofs.Common.{rules}
use Rattle.relay_orders.specs.Order.{lane_from}
use Rattle.relay_orders.proofs.order.fill_lanes.Goals as goal

pub returns : goal.returns
returns c = c.fill_from.ensures lane_from (λ x r fits e. search rules)
