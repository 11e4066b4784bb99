-- `first_unfit` meets its contract: small lanes have fit distances. Assumes nothing.
use mathlib.Core.Path.{sym, ◌∙◌}
use Rattle.rules.specs.Refusals.{decision_of}
use Rattle.pairs.proofs.Sizes.{none_unfit}
use Rattle.pairs.proofs.first_unfit.Goals as goal

pub returns-then-all_small : goal.returns-then-all_small
unfolding decision_of
returns-then-all_small c = sym (none_unfit _ _ _ c.if-counters-le64.true (sym c.all_small.ensures ∙ c.if-all_small.true))
