-- `refusals_descent::call::asked` meets its contract. Assumes nothing.
use Rattle.refusals_descent.proofs.Calls.{begun_made, iterated_made}
use Rattle.refusals_descent.proofs.call.asked.Goals as goal

pub returns-then-c : goal.returns-then-c
returns-then-c c = begun_made _ _ _ _ _ _ _ _ _ _ _ _ _ c.if-c.true c.begin-begun.ensures c.uncounted.ensures

pub returns : goal.returns
returns c = iterated_made _ _ _ _ _ _ _ _ _ _ _ _ c.if-c.false c.iterate.ensures
