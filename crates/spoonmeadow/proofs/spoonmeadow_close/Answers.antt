-- `spoonmeadow_close` meets its contract: the entry's, over what its answer says. Assumes nothing.
use Rattle.spoonmeadow.proofs.Laws.{closed}
use Rattle.spoonmeadow.proofs.spoonmeadow_close.Goals as goal

pub returns : goal.returns
returns c = closed c.from.ensures c.close.ensures
