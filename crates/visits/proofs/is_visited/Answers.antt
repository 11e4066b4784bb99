-- `visits::is_visited` meets its contract. Assumes nothing.
use Rattle.visits.proofs.Laws.{read-bit}
use Rattle.visits.proofs.is_visited.Goals as goal

pub returns : goal.returns
returns c =
    read-bit _ _ _ c.requires.3 c.pair_at-p.ensures c.bit_at.ensures
