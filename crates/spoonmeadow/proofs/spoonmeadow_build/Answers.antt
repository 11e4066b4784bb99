-- `spoonmeadow_build` meets its contract: the entry's, over what its answer says. Assumes nothing.
use Rattle.spoonmeadow.proofs.Laws.{built}
use Rattle.spoonmeadow.proofs.spoonmeadow_build.Goals as goal

pub returns : goal.returns
returns c = built c.from.ensures c.build.ensures
