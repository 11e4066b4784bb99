-- `passes::cross` meets its contract. Assumes nothing.
use Rattle.passes.proofs.Laws.{cross-is, does_pairs, within_all}
use Rattle.passes.proofs.cross.Goals as goal

pub pass-requires : goal.pass-requires
pass-requires c = let p = c.requires in (p.0, p.1, p.2, within_all _ _, p.3)

pub returns : goal.returns
returns c = does_pairs _ (cross-is _ _) c.pass.ensures
