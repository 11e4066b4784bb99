-- `spoonmeadow_search` meets its contract: the entry's, over what its answer says. Assumes nothing.
use Rattle.spoonmeadow.proofs.Laws.{searched}
use Rattle.spoonmeadow.proofs.spoonmeadow_search.Goals as goal

pub returns : goal.returns
returns c = searched c.from.ensures c.search.ensures
