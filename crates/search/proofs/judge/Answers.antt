-- `search::judge` meets its contract: row by row. Assumes nothing.
use Rattle.std.proofs.lemmas.Result.{err_from_is_err_and}
use mathlib.Core.Path.{sym, ap, ◌∙◌, refl}
use native.Mathlib.Omega.{arith}
use lib.Dec.{eqb}
use Rattle.rules.specs.Refusals.{decision_of, code_of}
use Rattle.rules.proofs.Tables.{within}
use Rattle.table.proofs.Rows.{game}
use Rattle.search.proofs.Table.{by_game, by_width, by_k, by_lengths, by_roots, by_query, by_none}
use Rattle.search.proofs.judge.Goals as goal

pub returns-in_err-game : goal.returns-in_err-game
returns-in_err-game c =
    let p = err_from_is_err_and c.from_residual.result c.from_residual.ensures.1 in
    rw (p.1, p.2) (by_game _ _ _ _ _ _ _ _ _ _ _ _ c.in_err-game.ensures refl)

pub returns-then-outside : goal.returns-then-outside
unfolding decision_of code_of
returns-then-outside c = by_width _ _ _ _ _ _ _ _ _ _ _ _ c.game.ensures c.in_ok-game.was (sym c.outside.ensures ∙ c.if-outside.true)

pub returns-then-outside-2 : goal.returns-then-outside-2
unfolding decision_of code_of
returns-then-outside-2 c = by_k _ _ _ _ _ _ _ _ _ _ _ _ c.game.ensures c.in_ok-game.was (sym c.outside.ensures ∙ c.if-outside.false) (sym c.outside-2.ensures ∙ c.if-outside-2.true)

pub wrong_buffers-requires : goal.wrong_buffers-requires
wrong_buffers-requires c =
    let g = game c.game.ensures c.in_ok-game.was in
    (g.nodes, (within 1 64 _ (sym c.outside.ensures ∙ c.if-outside.false)).to)

pub returns-then-wrong_buffers : goal.returns-then-wrong_buffers
unfolding decision_of code_of
returns-then-wrong_buffers c =
    by_lengths _ _ _ _ _ _ _ _ _ _ _ _ c.game.ensures c.in_ok-game.was (sym c.outside.ensures ∙ c.if-outside.false)
    (sym c.outside-2.ensures ∙ c.if-outside-2.false) (sym c.wrong_buffers.ensures ∙ c.if-wrong_buffers.true)

pub returns-in_err-roots : goal.returns-in_err-roots
returns-in_err-roots c =
    let p = err_from_is_err_and c.from_residual-in_err-roots.result c.from_residual-in_err-roots.ensures.1 in
    rw (p.1, p.2) (by_roots _ _ _ _ _ _ _ _ _ _ _ _ c.game.ensures c.in_ok-game.was (sym c.outside.ensures ∙ c.if-outside.false)
    (sym c.outside-2.ensures ∙ c.if-outside-2.false) (sym c.wrong_buffers.ensures ∙ c.if-wrong_buffers.false) c.in_err-roots.ensures refl)

pub invariant_of-counters : goal.invariant_of-counters
invariant_of-counters c =
    let g = game c.game.ensures c.in_ok-game.was in
    record { whole = g.long }

pub lanes_of-requires : goal.lanes_of-requires
lanes_of-requires c =
    let some = (game c.game.ensures c.in_ok-game.was).some in
    omega arith

pub returns-then-same_dimension : goal.returns-then-same_dimension
unfolding decision_of code_of
returns-then-same_dimension c =
    by_none _ _ _ _ _ _ _ _ _ _ _ _ c.game.ensures c.in_ok-game.was (sym c.outside.ensures ∙ c.if-outside.false)
    (sym c.outside-2.ensures ∙ c.if-outside-2.false) (sym c.wrong_buffers.ensures ∙ c.if-wrong_buffers.false) c.roots.ensures c.in_ok-roots.was
    (ap (eqb _) (sym c.lanes_of.ensures.long) ∙ sym c.same_dimension.ensures ∙ c.if-same_dimension.true)

pub returns : goal.returns
unfolding decision_of code_of
returns c =
    by_query _ _ _ _ _ _ _ _ _ _ _ _ c.game.ensures c.in_ok-game.was (sym c.outside.ensures ∙ c.if-outside.false)
    (sym c.outside-2.ensures ∙ c.if-outside-2.false) (sym c.wrong_buffers.ensures ∙ c.if-wrong_buffers.false) c.roots.ensures c.in_ok-roots.was
    (ap (eqb _) (sym c.lanes_of.ensures.long) ∙ sym c.same_dimension.ensures ∙ c.if-same_dimension.false)
