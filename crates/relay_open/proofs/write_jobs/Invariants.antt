-- `relay_open::write_jobs` meets its contract: the jobs before the i-th are written. Assumes nothing.
use Rattle.rules.specs.Distance.{between}
use Rattle.relay_open.specs.Open.{JobsWritten}
use Rattle.relay_open.proofs.write_jobs.Given as goal

abbrev pub invariant-loop-i : goal.invariant-loop-i
invariant-loop-i l = JobsWritten (between l.counters.lanes.now l.counters.dimension) l.jobs l.i l.words l.floats
