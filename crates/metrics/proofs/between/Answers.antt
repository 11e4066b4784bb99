-- `between` meets its contract.
use mathlib.Core.Path.{◌∙◌, ap}
use Rattle.rules.specs.Distance.{carried, between}
use Rattle.metrics.proofs.Steps.{carried_or}
use Rattle.metrics.proofs.between.Goals as goal

pub returns : goal.returns
unfolding between
returns c = c.unwrap_or.ensures ∙ carried_or _ ∙ ap carried c.node_distance.ensures
