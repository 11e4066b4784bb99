-- `node_distance` meets its contract.
use Rattle.rules.specs.Distance.{nodes_apart}
use Rattle.metrics.proofs.Steps.{of_parts}
use Rattle.metrics.proofs.node_distance.Goals as goal

pub returns : goal.returns
unfolding nodes_apart
returns c = of_parts _ _ _ _ _ c.metric.ensures c.lanes_of-x.ensures.contents c.lanes_of-y.ensures.contents
