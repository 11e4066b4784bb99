-- `spoonmeadow_begin` meets its contract: the entry's, over what its answer says. Assumes nothing.
use Rattle.spoonmeadow.proofs.Laws.{begun}
use Rattle.spoonmeadow.proofs.spoonmeadow_begin.Goals as goal

pub returns : goal.returns
returns c = begun c.from.ensures c.begin.ensures
