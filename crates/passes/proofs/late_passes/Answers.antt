-- `passes::late_passes` meets its contract: one pass after another. Assumes nothing.
use Rattle.passes.specs.Passes.{late_pairs}
use Rattle.passes.proofs.Laws.{does_append}
use Rattle.passes.proofs.late_passes.Goals as goal

pub returns : goal.returns
unfolding late_pairs
returns c =
    does_append _ _ _ c.cross-a.ensures (does_append _ _ _ c.cross-b.ensures (does_append _ _ _ c.cross-c.ensures c.cross.ensures))
