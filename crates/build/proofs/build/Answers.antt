-- `build::build` meets its contract: the table, or the work. Assumes nothing.
use mathlib.Core.Path.{refl}
use Rattle.std.proofs.lemmas.Result.{err_from_is_err_and}
use Rattle.build.proofs.Table.{ready}
use Rattle.build.proofs.Steps.{built_refused, no_row, built_worked}
use Rattle.build.proofs.build.Goals as goal

pub invariant_of-counters : goal.invariant_of-counters
invariant_of-counters c =
    let r = ready _ (no_row _ c.judge.ensures c.in_ok-judge.was) in
    record { whole = r.lanes_long }

pub work-requires : goal.work-requires
work-requires c = ready _ (no_row _ c.judge.ensures c.in_ok-judge.was)

pub returns-in_err-judge : goal.returns-in_err-judge
returns-in_err-judge c =
    let p = err_from_is_err_and c.from_residual.result c.from_residual.ensures.1 in
    rw (p.1, p.2) (built_refused _ c.in_err-judge.ensures refl)

pub returns : goal.returns
returns c = built_worked _ (no_row _ c.judge.ensures c.in_ok-judge.was) c.work.ensures
