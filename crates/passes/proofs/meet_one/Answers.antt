-- `passes::meet_one` meets its contract. Assumes nothing.
use mathlib.Core.Path.{sym, ◌∙◌}
use Rattle.passes.proofs.Laws.{one-joins, one-passed}
use Rattle.passes.proofs.meet_one.Goals as goal

pub returns-then-joins : goal.returns-then-joins
returns-then-joins c =
    one-joins _ _ _ _ (sym c.joins.ensures ∙ c.if-joins.true) c.meet.ensures

pub returns : goal.returns
returns c = one-passed _ _ _ _ (sym c.joins.ensures ∙ c.if-joins.false)
