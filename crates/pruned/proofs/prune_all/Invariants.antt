-- `pruned::prune_all` meets its contract: the rows before the q-th stand, and the flags are clear. Assumes nothing.
use Rattle.rules.specs.Distance.{between}
use Rattle.pruned.specs.Pruned.{sizes}
use Rattle.pruned.proofs.All.{Pruning}
use Rattle.pruned.proofs.prune_all.Given as goal

abbrev pub invariant-loop-q : goal.invariant-loop-q
invariant-loop-q l = Pruning (between l.counters.lanes.now l.counters.dimension) l.counters.n (sizes l.init_k l.index_size l.limit l.threshold) l.initial.nodes l.initial.dists l.nodes l.dists l.flags l.pool_nodes l.pool_dists l.q
