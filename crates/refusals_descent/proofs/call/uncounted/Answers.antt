-- `refusals_descent::call::uncounted` meets its contract. Assumes nothing.
use Rattle.refusals_descent.proofs.Calls.{counted-done, counted-refused}
use Rattle.refusals_descent.proofs.call.uncounted.Goals as goal

pub returns-in-Ok : goal.returns-in-Ok
returns-in-Ok c = counted-done _ c.in-Ok.is

pub returns-in-Err : goal.returns-in-Err
returns-in-Err c = counted-refused _ _ c.in-Err.is
