-- `passes::passes` meets its contract: the first three passes, and the others. Assumes nothing.
use Rattle.passes.proofs.Laws.{passes_are, does_pairs, does_append}
use Rattle.passes.proofs.passes.Goals as goal

pub returns : goal.returns
returns c =
    does_pairs _ (passes_are c.members_at-new.ensures c.members_at-old.ensures c.members_at-reversed_new.ensures c.members_at-reversed_old.ensures)
    (does_append _ _ _ c.early_passes-done.ensures c.late_passes.ensures)
