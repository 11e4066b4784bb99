-- `relay_move::move_job` meets its contract: a row that holds, or the step. Assumes nothing.
use mathlib.Core.Path.{refl}
use Rattle.std.proofs.lemmas.Result.{err_from_is_err_and}
use Rattle.rules.specs.RelayCall.{MoveLent}
use Rattle.relay_move.specs.Move.{lent}
use Rattle.relay_move.proofs.Parts.{placed}
use Rattle.relay_move.proofs.Table.{ready}
use Rattle.relay_move.proofs.Outcomes.{moved-refused, no_row, moved-done}
use Rattle.relay_move.proofs.move_job.Goals.{Start}
use Rattle.relay_move.proofs.move_job.Goals as goal

-- what the call was lent
abbrev lent_to : Start → MoveLent
lent_to start = let a = start.args in lent a.n a.k a.job a.state_u.now a.state_f.now

pub step-requires : goal.step-requires
step-requires c =
    let l = lent_to (goal.at.step-requires c).Start in
    let p = ready l (no_row l c.judge.ensures c.in_ok-judge.was) in
    record { sized = (p.sized, p.formed); job_in_bounds = ((placed _ p.sized p.present).few, p.present, p.unfinished) }

pub returns-in_err-judge : goal.returns-in_err-judge
returns-in_err-judge c =
    let p = err_from_is_err_and c.from_residual.result c.from_residual.ensures.1 in
    rw (p.1, p.2) (moved-refused (lent_to (goal.at.returns-in_err-judge c).Start) c.in_err-judge.ensures refl)

pub returns : goal.returns
returns c =
    let l = lent_to (goal.at.returns c).Start in
    moved-done l (no_row l c.judge.ensures c.in_ok-judge.was) c.step.ensures
