-- `walk::roots_found` meets its contract. Assumes nothing.
use Rattle.rules.specs.Distance.{query_apart}
use Rattle.walk.proofs.Rooted.{Rooting}
use Rattle.walk.proofs.roots_found.Given as goal

abbrev pub invariant-loop-v : goal.invariant-loop-v
invariant-loop-v l = Rooting (query_apart l.asked.counters.lanes.now l.asked.counters.dimension l.asked.query.now) l.asked.counters.n l.k l.roots l.initial.words l.initial.floats l.words l.floats l.len l.v-index
