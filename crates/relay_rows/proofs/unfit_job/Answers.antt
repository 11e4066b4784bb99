-- `relay_rows::unfit_job` meets its contract. Assumes nothing.
use mathlib.Core.Path.{sym, ap, ◌∙◌}
use Rattle.rules.specs.Distance.{unfit, nodes_apart}
use Rattle.metrics.proofs.Steps.{unfit_none}
use Rattle.relay_rows.proofs.Laws.{equal_nodes_lem, other-nodes}
use Rattle.relay_rows.proofs.unfit_job.Goals as goal

pub returns-then-u-v : goal.returns-then-u-v
returns-then-u-v c = equal_nodes_lem (nodes_apart _ _) _ _ c.if-u-v.true

pub returns : goal.returns
returns c = sym (unfit_none _ _ c.is_none.ensures) ∙ ap unfit c.distance.ensures ∙ other-nodes (nodes_apart _ _) _ _ c.if-u-v.false
