-- `relay_close::close` meets its contract: a row that holds, or the lists and the reports. Assumes nothing.
use mathlib.Core.Path.{refl}
use Rattle.std.proofs.lemmas.Result.{err_from_is_err_and}
use Prim.Native.Nat.{ℕ}
use lib.Dec.{T}
use lib.Ieee.{Float, nan, binary32, fits}
use Rattle.rules.specs.RelayCall.{CloseLent}
use Rattle.lists.proofs.Plain.{all_of}
use Rattle.encoded.specs.Words.{Binary32}
use Rattle.relay_close.specs.Close.{lent}
use Rattle.relay_close.proofs.Closing.{few-done}
use Rattle.relay_close.proofs.Table.{ready}
use Rattle.relay_close.proofs.Outcomes.{closed-refused, no_row, closed-done}
use Rattle.relay_close.proofs.close.Goals.{Start}
use Rattle.relay_close.proofs.close.Goals as goal

-- what the call was lent
abbrev lent_to : Start → CloseLent
lent_to start =
    let a = start.args in
    lent a.n a.k a.state_u.now a.state_f.now a.nodes.now a.distances.now a.reports.now

pub write_lists-requires : goal.write_lists-requires
write_lists-requires c =
    let l = lent_to (goal.at.write_lists-requires c).Start in
    -- what an f32 slice holds are values of binary32
    let f : Binary32 c.args.state_f.now = all_of (λ (x : Float). T (fits binary32 x)) c.args.state_f.now nan (λ (i : ℕ) h. c.type_inv.state_f i) in
    let p = ready l f (no_row l c.judge.ensures c.in_ok-judge.was) in
    (p.done, p.nodes_long, p.distances_long)

pub write_reports-requires : goal.write_reports-requires
write_reports-requires c =
    let l = lent_to (goal.at.write_reports-requires c).Start in
    -- what an f32 slice holds are values of binary32
    let f : Binary32 c.args.state_f.now = all_of (λ (x : Float). T (fits binary32 x)) c.args.state_f.now nan (λ (i : ℕ) h. c.type_inv.state_f i) in
    let p = ready l f (no_row l c.judge.ensures c.in_ok-judge.was) in
    (p.done, p.reports_long, few-done p.done)

pub returns-in_err-judge : goal.returns-in_err-judge
returns-in_err-judge c =
    let p = err_from_is_err_and c.from_residual.result c.from_residual.ensures.1 in
    rw (p.1, p.2) (closed-refused (lent_to (goal.at.returns-in_err-judge c).Start) c.in_err-judge.ensures refl)

pub returns : goal.returns
returns c =
    let l = lent_to (goal.at.returns c).Start in
    closed-done l (no_row l c.judge.ensures c.in_ok-judge.was) c.write_lists.ensures c.write_reports.ensures
