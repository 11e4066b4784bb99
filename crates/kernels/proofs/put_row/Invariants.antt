-- `put_row` meets its contract: the first l lanes are put.
use Prim.Native.Nat.{◌≤◌}
use lib.ListN.{length}
use Rattle.kernels.proofs.Laws.{Putting}
use Rattle.kernels.proofs.put_row.Given as goal

abbrev pub invariant-loop-l : goal.invariant-loop-l
invariant-loop-l l = (l.l ≤ length l.x) × Putting l.initial.block l.x l.t l.block l.l
