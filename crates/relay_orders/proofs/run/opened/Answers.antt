-- `relay_orders::run::opened` meets its contract. Assumes nothing.
use Rattle.relay_orders.proofs.Runs.{opened_made}
use Rattle.relay_orders.proofs.run.opened.Goals as goal

pub returns : goal.returns
returns c = opened_made _ _ _ _ _ _ _ _ _ _ _ _ _ _ c.open-answer.ensures c.refused.ensures
