-- `block_of` meets its contract: the first t columns are filled.
use mathlib.Core.Path.{◌≡◌}
use Prim.Native.Nat.{◌≤◌}
use lib.ListN.{length}
use Rattle.kernels.specs.Eight.{Holds}
use Rattle.kernels.proofs.block_of.Given as goal

abbrev pub invariant-loop-t : goal.invariant-loop-t
invariant-loop-t l = (l.t ≤ 8) × (length l.block ≡ 512) × Holds l.counters.lanes.now l.counters.dimension l.counters.n l.base l.t l.block
