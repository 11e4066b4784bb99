-- What the search leaves of `relay_close::write_reports`.
use native.Mathlib.Omega.{arith}
use Rattle.buffers.proofs.Laws.{written_none}
use Rattle.relay_close.proofs.Closing.{reports_turn, reports-end, count-done}
use Rattle.relay_close.proofs.write_reports.Goals as goal

pub loop-i-init : goal.loop-i-init
loop-i-init c = written_none _ _

pub loop-i-preserved : goal.loop-i-preserved
loop-i-preserved c =
    let d = c.requires.0 in
    let count = count-done d in
    reports_turn d c.loop-i.i (omega arith) c.requires.1 (omega arith) c.loop-i.invariant

pub returns : goal.returns
returns c =
    let d = c.requires.0 in
    let count = count-done d in
    reports-end d c.loop-i.i (omega arith) c.loop-i.invariant
