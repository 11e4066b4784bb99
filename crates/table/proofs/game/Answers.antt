-- `table::game` meets its contract: row by row. Assumes nothing.
use mathlib.Core.Path.{sym, ◌∙◌}
use native.Mathlib.Omega.{arith}
use Rattle.rules.specs.Refusals.{decision_of, code_of}
use Rattle.table.proofs.Laws.{lanes_fit, game-dimension, game-nodes, game-lanes, game-passed}
use Rattle.table.proofs.game.Goals as goal

pub returns-then-outside : goal.returns-then-outside
unfolding decision_of code_of
returns-then-outside c = sym (game-dimension _ _ _ _ (sym c.outside.ensures ∙ c.if-outside.true))

pub returns-then-outside-2 : goal.returns-then-outside-2
unfolding decision_of code_of
returns-then-outside-2 c = sym (game-nodes _ _ _ _ (sym c.outside.ensures ∙ c.if-outside.false) (sym c.outside-2.ensures ∙ c.if-outside-2.true))

pub overflow_mul-n : goal.overflow_mul-n
overflow_mul-n c =
    let fits = lanes_fit _ _ _ c.requires (sym c.outside-2.ensures ∙ c.if-outside-2.false) (sym c.outside.ensures ∙ c.if-outside.false) in
    omega arith

pub returns-then-lanes-n : goal.returns-then-lanes-n
unfolding decision_of code_of
returns-then-lanes-n c = sym (game-lanes _ _ _ _ (sym c.outside.ensures ∙ c.if-outside.false) (sym c.outside-2.ensures ∙ c.if-outside-2.false) c.if-lanes-n.true)

pub returns : goal.returns
unfolding decision_of code_of
returns c = sym (game-passed _ _ _ _ (sym c.outside.ensures ∙ c.if-outside.false) (sym c.outside-2.ensures ∙ c.if-outside-2.false) c.if-lanes-n.false)
