-- What the search leaves of `refusals_descent::given::fill_run`.
use Rattle.std.proofs.Common.{sym, ◌∙◌, arith}
use Rattle.refusals_descent.proofs.Laws.{filled_turn, filled_end}
use Rattle.refusals_descent.proofs.given.fill_run.Goals as goal

pub loop-at-preserved : goal.loop-at-preserved
loop-at-preserved c = filled_turn _ _ _ _ (omega arith) ∙ c.loop-at.invariant

pub returns : goal.returns
returns c = sym (filled_end _ _ _ _ (omega arith)) ∙ c.loop-at.invariant
