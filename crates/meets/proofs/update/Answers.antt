-- `meets::update` meets its contract. Assumes nothing.
use Rattle.meets.proofs.Laws.{updated_not, updated_both}
use Rattle.meets.proofs.update.Goals as goal

pub returns-then-u-v : goal.returns-then-u-v
returns-then-u-v c = updated_not _ _ _ _ _ _ _ c.if-u-v.true

pub returns : goal.returns
returns c = updated_both _ _ _ _ _ c.if-u-v.false c.between-distance.ensures c.offer_to.ensures c.offer_to-2.ensures
