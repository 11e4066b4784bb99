-- `spoonmeadow_iterate` meets its contract: the entry's, over what its answer says. Assumes nothing.
use Rattle.spoonmeadow.proofs.Laws.{iterated}
use Rattle.spoonmeadow.proofs.spoonmeadow_iterate.Goals as goal

pub returns : goal.returns
returns c = iterated c.from.ensures c.iterate.ensures
