-- `exact::distances_to` meets its contract: the first `i` distances are written. Assumes nothing.
use mathlib.Core.List.{map}
use lib.ListN.{take}
use Rattle.rules.specs.Distance.{between}
use Rattle.buffers.proofs.Laws.{Written}
use Rattle.exact.proofs.distances_to.Given as goal

abbrev pub invariant-loop-i : goal.invariant-loop-i
invariant-loop-i l = Written (map (between l.counters.lanes.now l.counters.dimension l.q.0) (take l.len l.nodes)) l.initial.dists l.dists l.i
