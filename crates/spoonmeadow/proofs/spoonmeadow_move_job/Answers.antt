-- `spoonmeadow_move_job` meets its contract: the entry's, over what its answer says. Assumes nothing.
use Rattle.spoonmeadow.proofs.Laws.{moved}
use Rattle.spoonmeadow.proofs.spoonmeadow_move_job.Goals as goal

pub returns : goal.returns
returns c = moved c.from.ensures c.move_job.ensures
