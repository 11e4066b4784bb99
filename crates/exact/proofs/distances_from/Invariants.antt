-- `exact::distances_from` meets its contract: the first `p` distances are written. Assumes nothing.
use Rattle.rules.specs.Distance.{between}
use Rattle.buffers.proofs.Laws.{Written}
use Rattle.exact.specs.Exact.{distances_from}
use Rattle.exact.proofs.distances_from.Given as goal

abbrev pub invariant-loop-p : goal.invariant-loop-p
invariant-loop-p l = Written (distances_from (between l.counters.lanes.now l.counters.dimension) l.counters.n l.q.0) l.initial.out l.out l.p
