-- `relay_close::write_reports` meets its contract: the reports of the jobs before the i-th are written. Assumes nothing.
use Prim.Native.Nat.{◌*◌}
use Rattle.rules.specs.Relay.{reports_of}
use Rattle.rules.specs.RelayPlaces.{relay_in}
use Rattle.buffers.proofs.Laws.{Written}
use Rattle.relay_close.proofs.write_reports.Given as goal

abbrev pub invariant-loop-i : goal.invariant-loop-i
invariant-loop-i l = Written (reports_of (relay_in l.n l.k l.words l.floats).jobs) l.initial.reports l.reports (2 * l.i)
