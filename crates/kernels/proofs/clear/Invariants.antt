-- `clear` meets its contract: the eight are fit with the nodes before j.
use Prim.Native.Nat.{◌≤◌}
use Rattle.rules.specs.Distance.{nodes_apart}
use Rattle.kernels.proofs.Pairs.{FitTo}
use Rattle.kernels.proofs.clear.Given as goal

abbrev pub invariant-loop-j : goal.invariant-loop-j
invariant-loop-j l = (l.base ≤ l.j) × (l.j ≤ l.counters.n) × FitTo (nodes_apart l.counters.lanes.now l.counters.dimension) l.counters.n l.base l.j
