-- `links::link_node` meets its contract: the first `i` links are made. Assumes nothing.
use Rattle.rules.specs.Distance.{between}
use Rattle.rules.specs.Build.{link}
use Rattle.links.proofs.Slots.{Turning}
use Rattle.links.proofs.link_node.Given as goal

abbrev pub invariant-loop-i : goal.invariant-loop-i
invariant-loop-i l = Turning l.counters.n l.index_size l.index_size (link (between l.counters.lanes.now l.counters.dimension) l.threshold l.index_size l.v.0) l.initial.nodes l.initial.dists l.initial.pool_nodes l.initial.pool_dists l.nodes l.dists l.pool_nodes l.pool_dists l.i
