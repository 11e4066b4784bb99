-- `relay_orders::run::in_state` meets its contract. Assumes nothing.
use Rattle.std.proofs.Common.{refl, ◌∙◌}
use Rattle.relay_orders.proofs.Runs.{closed_made, relay_made}
use Rattle.relay_orders.proofs.run.in_state.Goals as goal

pub returns : goal.returns
returns c =
    closed_made _ _ _ _ _ _ _ _ _ _ _ _ _ _ _ _ c.close.ensures c.refused-c.ensures refl refl
    ∙ relay_made _ _ _ _ _ _ _ _ _ _ _ _ _ _ _ _ c.opened-a.ensures c.moved-b.ensures
