-- `walk::go_on` meets its contract: what is left of the walk gives the whole. Assumes nothing.
use Prim.Native.Nat.{◌-◌}
use Rattle.rules.specs.Distance.{query_apart}
use Rattle.rules.specs.Rows.{graph_row}
use Rattle.walk.proofs.Walking.{Walking}
use Rattle.walk.proofs.go_on.Given as goal

abbrev pub invariant-loop-takings : goal.invariant-loop-takings
invariant-loop-takings l = Walking (query_apart l.asked.counters.lanes.now l.asked.counters.dimension l.asked.query.now) (graph_row l.asked.counters.n l.index_size l.graph) l.asked.counters.n l.m l.initial.words l.initial.floats l.words l.floats l.takings l.tail

abbrev pub decreases-loop-takings : goal.decreases-loop-takings
decreases-loop-takings l = l.asked.counters.n - l.takings
