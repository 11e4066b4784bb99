-- `spoonmeadow_open` meets its contract: the entry's, over what its answer says. Assumes nothing.
use Rattle.spoonmeadow.proofs.Laws.{opened}
use Rattle.spoonmeadow.proofs.spoonmeadow_open.Goals as goal

pub returns : goal.returns
returns c = opened c.from.ensures c.open.ensures
