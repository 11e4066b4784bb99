-- `descent::judge` meets its contract: row by row. Assumes nothing.
use Rattle.std.proofs.lemmas.Result.{err_from_is_err_and}
use mathlib.Core.Path.{sym, ◌∙◌, refl}
use native.Mathlib.Omega.{arith}
use Rattle.rules.specs.Refusals.{decision_of, code_of}
use Rattle.table.proofs.Rows.{game}
use Rattle.descent.proofs.Table.{by_game, by_sizes, by_lengths, by_pairs, sizes_in}
use Rattle.descent.proofs.judge.Goals as goal

pub returns-in_err-game : goal.returns-in_err-game
returns-in_err-game c =
    let p = err_from_is_err_and c.from_residual.result c.from_residual.ensures.1 in
    rw (p.1, p.2) (by_game _ _ _ _ _ _ _ _ _ _ c.in_err-game.ensures refl)

pub returns-then-wrong_sizes : goal.returns-then-wrong_sizes
unfolding decision_of code_of
returns-then-wrong_sizes c = by_sizes _ _ _ _ _ _ _ _ _ _ c.game.ensures c.in_ok-game.was (sym c.wrong_sizes.ensures ∙ c.if-wrong_sizes.true)

pub wrong_buffers-requires : goal.wrong_buffers-requires
wrong_buffers-requires c = ((game c.game.ensures c.in_ok-game.was).nodes, (sizes_in _ _ (sym c.wrong_sizes.ensures ∙ c.if-wrong_sizes.false)).few_k)

pub returns-then-wrong_buffers : goal.returns-then-wrong_buffers
unfolding decision_of code_of
returns-then-wrong_buffers c = by_lengths _ _ _ _ _ _ _ _ _ _ c.game.ensures c.in_ok-game.was (sym c.wrong_sizes.ensures ∙ c.if-wrong_sizes.false) (sym c.wrong_buffers.ensures ∙ c.if-wrong_buffers.true)

pub first_unfit-requires : goal.first_unfit-requires
first_unfit-requires c = let few = (game c.game.ensures c.in_ok-game.was).nodes in omega arith

pub invariant_of-first_unfit : goal.invariant_of-first_unfit
invariant_of-first_unfit c =
    let g = game c.game.ensures c.in_ok-game.was in
    record { whole = g.long }

pub returns : goal.returns
returns c = by_pairs _ _ _ _ _ _ _ _ _ _ c.game.ensures c.in_ok-game.was (sym c.wrong_sizes.ensures ∙ c.if-wrong_sizes.false) (sym c.wrong_buffers.ensures ∙ c.if-wrong_buffers.false) _ c.first_unfit.ensures
