-- `visits::visit` meets its contract. Assumes nothing.
use Rattle.visits.proofs.Laws.{marked-set}
use Rattle.visits.proofs.visit.Goals as goal

pub returns : goal.returns
returns c =
    marked-set _ _ _ c.requires.3 c.pair_at-p.ensures c.set_bit.ensures
