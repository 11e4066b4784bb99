-- `meets::meet` meets its contract. Assumes nothing.
use Rattle.meets.proofs.Laws.{met_both}
use Rattle.meets.proofs.meet.Goals as goal

pub returns : goal.returns
returns c =
    met_both _ _ _ _ _ c.requires.0.words c.update-one.ensures c.visit.ensures c.visit-2.ensures
