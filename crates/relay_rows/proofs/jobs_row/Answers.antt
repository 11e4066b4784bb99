-- `relay_rows::jobs_row` meets its contract: the number of jobs, then each. Assumes nothing.
use mathlib.Core.Path.{sym, ◌∙◌}
use Rattle.rules.specs.Refusals.{decision_of, code_of}
use Rattle.relay_rows.proofs.Laws.{by_count, by_job, by_none}
use Rattle.relay_rows.proofs.jobs_row.Goals as goal

pub returns-then-outside : goal.returns-then-outside
unfolding decision_of code_of
returns-then-outside c = by_count _ _ (sym c.outside.ensures ∙ c.if-outside.true)

pub returns-then-at-count : goal.returns-then-at-count
unfolding decision_of code_of
returns-then-at-count c = by_job _ _ _ (sym c.outside.ensures ∙ c.if-outside.false) c.first_bad_job-at.ensures c.if-at-count.true

pub returns : goal.returns
unfolding decision_of code_of
returns c = by_none _ _ _ (sym c.outside.ensures ∙ c.if-outside.false) c.first_bad_job-at.ensures c.if-at-count.false
