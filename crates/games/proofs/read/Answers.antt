-- What the search leaves of `games::read`: a line where something is wrong.
use Rattle.std.proofs.Common.{sym, ◌∙◌}
use Rattle.std.proofs.lemmas.Result.{err_from_is_err_and}
use Rattle.games.proofs.Laws.{lines_stop}
use Rattle.games.proofs.read.Goals as goal

pub returns-in_err-r : goal.returns-in_err-r
returns-in_err-r c =
    let p = err_from_is_err_and c.from_residual.result c.from_residual.ensures.1 in
    rw (p.1, p.2) (sym (lines_stop _ _ _ _ _ _ c.loop-line-test.true c.if-g-text.false _ _ _ c.in_err-r.ensures) ∙ c.loop-line.invariant)
