-- `relay_orders::run::refused` meets its contract. Assumes nothing.
use Rattle.relay_orders.proofs.Runs.{refused_none, refused-some}
use Rattle.relay_orders.proofs.run.refused.Goals as goal

pub returns-in-Ok : goal.returns-in-Ok
returns-in-Ok c = refused_none _ c.in-Ok.is

pub returns-in-Err : goal.returns-in-Err
returns-in-Err c = refused-some _ _ c.in-Err.is
