-- `expand::visit_row` meets its contract: what is left of the row gives the whole. Assumes nothing.
use Rattle.rules.specs.Distance.{query_apart}
use Rattle.expand.proofs.Steps.{Visiting}
use Rattle.expand.proofs.visit_row.Given as goal

abbrev pub invariant-loop-v : goal.invariant-loop-v
invariant-loop-v l = Visiting l.far (query_apart l.asked.counters.lanes.now l.asked.counters.dimension l.asked.query.now) l.asked.counters.n l.row l.initial.words l.initial.floats l.words l.floats l.len l.v-index
