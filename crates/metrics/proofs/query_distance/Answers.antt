-- `query_distance` meets its contract.
use mathlib.Core.Path.{refl}
use Rattle.rules.specs.Distance.{query_apart}
use Rattle.metrics.proofs.Steps.{of_parts}
use Rattle.metrics.proofs.query_distance.Goals as goal

pub returns : goal.returns
unfolding query_apart
returns c = of_parts _ _ _ _ _ c.metric.ensures c.lanes_of-x.ensures.contents refl
