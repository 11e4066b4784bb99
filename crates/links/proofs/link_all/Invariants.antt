-- `links::link_all` meets its contract: the nodes below `v` are linked. Assumes nothing.
use Rattle.rules.specs.Distance.{between}
use Rattle.links.specs.Links.{links_of}
use Rattle.links.proofs.Slots.{Turning}
use Rattle.links.proofs.link_all.Given as goal

abbrev pub invariant-loop-v : goal.invariant-loop-v
invariant-loop-v l = Turning l.counters.n l.index_size l.counters.n (links_of (between l.counters.lanes.now l.counters.dimension) l.threshold l.index_size) l.initial.nodes l.initial.dists l.initial.pool_nodes l.initial.pool_dists l.nodes l.dists l.pool_nodes l.pool_dists l.v
