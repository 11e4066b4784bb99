-- `table::roots` meets its contract. Assumes nothing.
use mathlib.Core.Path.{sym, ◌∙◌}
use native.Mathlib.Omega.{arith}
use Rattle.rules.specs.Refusals.{decision_of, code_of}
use Rattle.table.proofs.Laws.{few-roots, bad_root_lem, good_roots}
use Rattle.table.proofs.roots.Goals as goal

pub returns-then-outside : goal.returns-then-outside
unfolding decision_of code_of
returns-then-outside c = sym (few-roots _ _ (sym c.outside.ensures ∙ c.if-outside.true))

pub returns-in-Some : goal.returns-in-Some
unfolding decision_of code_of
returns-in-Some c =
    let found = c.in-Some.ensures in
    sym (bad_root_lem _ _ _ (sym c.outside.ensures ∙ c.if-outside.false) found.1 (omega arith))

pub returns : goal.returns
unfolding decision_of code_of
returns c = sym (good_roots _ _ (sym c.outside.ensures ∙ c.if-outside.false) (omega (arith, c.in_default.ensures)))
