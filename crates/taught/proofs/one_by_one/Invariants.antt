-- `taught::one_by_one` meets its contract: the lists before the q-th stand. Assumes nothing.
use Rattle.rules.specs.Distance.{between}
use Rattle.taught.proofs.Laws.{Teaching}
use Rattle.taught.proofs.one_by_one.Given as goal

abbrev pub invariant-loop-q : goal.invariant-loop-q
invariant-loop-q l = Teaching (between l.counters.lanes.now l.counters.dimension) l.counters.n l.init_k 0 l.initial.lists l.initial.row l.lists l.row l.nodes l.dists l.q
