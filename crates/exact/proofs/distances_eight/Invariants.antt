-- `exact::distances_eight` meets its contract: the distances to the nodes before i are written. Assumes nothing.
use mathlib.Core.Path.{◌≡◌}
use lib.ListN.{length}
use Rattle.rules.specs.Distance.{between}
use Rattle.exact.specs.Exact.{Eight}
use Rattle.exact.proofs.distances_eight.Given as goal

abbrev pub invariant-loop-i : goal.invariant-loop-i
invariant-loop-i l = (length l.rows ≡ length l.initial.rows) × Eight (between l.counters.lanes.now l.counters.dimension) l.counters.n l.base l.i l.rows
