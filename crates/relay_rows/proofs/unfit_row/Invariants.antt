-- `relay_rows::unfit_row` meets its contract: no job so far is unfit. Assumes nothing.
use Prim.Native.Nat.{◌-◌}
use Rattle.rules.specs.Distance.{nodes_apart}
use Rattle.relay_rows.proofs.Laws.{Measuring}
use Rattle.relay_rows.proofs.unfit_row.Given as goal

abbrev pub invariant-loop-i : goal.invariant-loop-i
invariant-loop-i l = Measuring (nodes_apart l.counters.lanes.now l.counters.dimension) l.count l.jobs l.i

abbrev pub decreases-loop-i : goal.decreases-loop-i
decreases-loop-i l = l.count - l.i
