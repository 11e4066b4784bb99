-- `visits::unvisit` meets its contract. Assumes nothing.
use Rattle.visits.proofs.Laws.{marked-clear}
use Rattle.visits.proofs.unvisit.Goals as goal

pub returns : goal.returns
returns c =
    marked-clear _ _ _ c.requires.3 c.pair_at-p.ensures c.clear_bit.ensures
