-- `prune::choose` meets its contract. The loop's invariant: to go on with the entries that are left gives the whole choice. Assumes nothing.
use Rattle.rules.specs.Distance.{between}
use Rattle.rules.specs.Build.{occludes}
use Rattle.prune.proofs.Laws.{Choosing}
use Rattle.prune.proofs.choose.Given as goal

abbrev pub invariant-loop-i : goal.invariant-loop-i
invariant-loop-i l = Choosing (occludes (between l.counters.lanes.now l.counters.dimension) l.threshold l.equal_too) l.counters.n l.index_size l.len l.from_nodes l.from_dists l.initial.nodes l.initial.dists l.nodes l.dists l.kept l.i
