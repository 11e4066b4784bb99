-- `first_unfit` meets its contract: the nodes before `base` are fit with all behind them.
use Prim.Native.Nat.{◌+◌, ◌≤◌}
use Rattle.rules.specs.Distance.{nodes_apart}
use Rattle.kernels.proofs.Pairs.{Clear}
use Rattle.kernels.proofs.first_unfit.Given as goal

abbrev pub invariant-loop-base : goal.invariant-loop-base
invariant-loop-base l = (l.base ≤ l.counters.n + 8) × Clear (nodes_apart l.counters.lanes.now l.counters.dimension) l.counters.n 0 l.base l.counters.n
