-- `relay_rows::first_bad_job` meets its contract: no job so far is bad. Assumes nothing.
use Prim.Native.Nat.{◌-◌}
use Rattle.relay_rows.proofs.Laws.{Seek}
use Rattle.relay_rows.proofs.first_bad_job.Given as goal

abbrev pub invariant-loop-i : goal.invariant-loop-i
invariant-loop-i l = Seek l.n l.count l.jobs l.i

abbrev pub decreases-loop-i : goal.decreases-loop-i
decreases-loop-i l = l.count - l.i
