-- `totals8` meets its contract: what is left to add, added to the totals so far, is the whole.
use Prim.Native.Nat.{◌≤◌}
use lib.ListN.{length}
use Rattle.kernels.proofs.Laws.{Summing}
use Rattle.kernels.proofs.totals8.Given as goal

abbrev pub invariant-loop-l : goal.invariant-loop-l
invariant-loop-l l = (l.l ≤ length l.x) × Summing l.x l.block l.totals l.l
