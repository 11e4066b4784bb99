-- `relay_opening::judge` meets its contract: row by row. Assumes nothing.
use Rattle.std.proofs.lemmas.Result.{err_from_is_err_and}
use mathlib.Core.Path.{sym, ◌∙◌, refl}
use native.Mathlib.Omega.{arith}
use lib.ListN.{length}
use Rattle.rules.specs.Refusals.{decision_of, code_of}
use Rattle.rules.proofs.Tables.{within}
use Rattle.table.proofs.Rows.{game}
use Rattle.relay_opening.proofs.Table.{lists-long, by_game, by_k, by_lists, by_places, by_jobs, by_unfit, by_formed, by_state, jobs-passed}
use Rattle.relay_opening.proofs.judge.Goals as goal

pub returns-in_err-game : goal.returns-in_err-game
returns-in_err-game c =
    let p = err_from_is_err_and c.from_residual.result c.from_residual.ensures.1 in
    rw (p.1, p.2) (by_game _ _ _ _ _ _ _ _ _ _ _ _ _ _ c.in_err-game.ensures refl)

pub returns-then-outside : goal.returns-then-outside
unfolding decision_of code_of
returns-then-outside c = by_k _ _ _ _ _ _ _ _ _ _ _ _ _ _ c.game.ensures c.in_ok-game.was (sym c.outside.ensures ∙ c.if-outside.true)

pub wrong_lists-requires : goal.wrong_lists-requires
wrong_lists-requires c = ((game c.game.ensures c.in_ok-game.was).nodes, (within 1 64 _ (sym c.outside.ensures ∙ c.if-outside.false)).to)

pub returns-then-wrong_lists : goal.returns-then-wrong_lists
unfolding decision_of code_of
returns-then-wrong_lists c = by_lists _ _ _ _ _ _ _ _ _ _ _ _ _ _ c.game.ensures c.in_ok-game.was (sym c.outside.ensures ∙ c.if-outside.false) (sym c.wrong_lists.ensures ∙ c.if-wrong_lists.true)

pub wrong_places-requires : goal.wrong_places-requires
wrong_places-requires c = ((game c.game.ensures c.in_ok-game.was).nodes, (within 1 64 _ (sym c.outside.ensures ∙ c.if-outside.false)).to)

pub returns-then-wrong_places : goal.returns-then-wrong_places
unfolding decision_of code_of
returns-then-wrong_places c = by_places _ _ _ _ _ _ _ _ _ _ _ _ _ _ c.game.ensures c.in_ok-game.was (sym c.outside.ensures ∙ c.if-outside.false) (sym c.wrong_lists.ensures ∙ c.if-wrong_lists.false) (sym c.wrong_places.ensures ∙ c.if-wrong_places.true)

pub returns-in_err-jobs_row : goal.returns-in_err-jobs_row
returns-in_err-jobs_row c =
    let p = err_from_is_err_and c.from_residual-in_err-jobs_row.result c.from_residual-in_err-jobs_row.ensures.1 in
    rw (p.1, p.2) (by_jobs _ _ _ _ _ _ _ _ _ _ _ _ _ _ c.game.ensures c.in_ok-game.was (sym c.outside.ensures ∙ c.if-outside.false) (sym c.wrong_lists.ensures ∙ c.if-wrong_lists.false) (sym c.wrong_places.ensures ∙ c.if-wrong_places.false) c.in_err-jobs_row.ensures refl)

pub unfit_row-requires : goal.unfit_row-requires
unfit_row-requires c = jobs-passed c.jobs_row.ensures c.in_ok-jobs_row.was

pub invariant_of-counters : goal.invariant_of-counters
invariant_of-counters c =
    let g = game c.game.ensures c.in_ok-game.was in
    record { whole = g.long }

pub returns-in_err-unfit_row : goal.returns-in_err-unfit_row
returns-in_err-unfit_row c =
    let p = err_from_is_err_and c.from_residual-in_err-unfit_row.result c.from_residual-in_err-unfit_row.ensures.1 in
    rw (p.1, p.2) (by_unfit _ _ _ _ _ _ _ _ _ _ _ _ _ _ c.game.ensures c.in_ok-game.was (sym c.outside.ensures ∙ c.if-outside.false) (sym c.wrong_lists.ensures ∙ c.if-wrong_lists.false) (sym c.wrong_places.ensures ∙ c.if-wrong_places.false) c.jobs_row.ensures c.in_ok-jobs_row.was c.in_err-unfit_row.ensures refl)

pub lists_formed-requires : goal.lists_formed-requires
lists_formed-requires c = let g = game c.game.ensures c.in_ok-game.was in let few = g.nodes in let s = c.args in let l = lists-long s.n s.k (length s.nodes.now) (length s.distances.now) (length s.jobs.now) (sym c.wrong_lists.ensures ∙ c.if-wrong_lists.false) in let a = l.0 in let b = l.1 in (omega arith, (within 1 64 _ (sym c.outside.ensures ∙ c.if-outside.false)).to, omega arith, omega arith)

pub returns-then-lists_formed : goal.returns-then-lists_formed
unfolding decision_of code_of
returns-then-lists_formed c = by_formed _ _ _ _ _ _ _ _ _ _ _ _ _ _ c.game.ensures c.in_ok-game.was (sym c.outside.ensures ∙ c.if-outside.false) (sym c.wrong_lists.ensures ∙ c.if-wrong_lists.false) (sym c.wrong_places.ensures ∙ c.if-wrong_places.false) c.jobs_row.ensures c.in_ok-jobs_row.was c.unfit_row.ensures c.in_ok-unfit_row.was (sym c.lists_formed.ensures ∙ c.if-lists_formed.true)

pub returns : goal.returns
unfolding decision_of code_of
returns c = by_state _ _ _ _ _ _ _ _ _ _ _ _ _ _ c.game.ensures c.in_ok-game.was (sym c.outside.ensures ∙ c.if-outside.false) (sym c.wrong_lists.ensures ∙ c.if-wrong_lists.false) (sym c.wrong_places.ensures ∙ c.if-wrong_places.false) c.jobs_row.ensures c.in_ok-jobs_row.was c.unfit_row.ensures c.in_ok-unfit_row.was (sym c.lists_formed.ensures ∙ c.if-lists_formed.false)
