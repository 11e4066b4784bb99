-- `taught::eight_by_eight` meets its contract: the lists before the `base`-th stand. Assumes nothing.
use mathlib.Core.Path.{◌≡◌}
use Prim.Native.Nat.{◌-◌, ◌≤◌}
use lib.ListN.{length}
use Rattle.rules.specs.Distance.{between}
use Rattle.taught.specs.Taught.{Ranged}
use Rattle.taught.proofs.eight_by_eight.Given as goal

abbrev pub invariant-loop-base : goal.invariant-loop-base
invariant-loop-base l = (l.base ≤ l.counters.n) × (length l.rows ≡ length l.initial.rows) × Ranged (between l.counters.lanes.now l.counters.dimension) l.counters.n l.init_k 0 l.base l.initial.lists l.lists

abbrev pub decreases-loop-base : goal.decreases-loop-base
decreases-loop-base l = l.counters.n - l.base
