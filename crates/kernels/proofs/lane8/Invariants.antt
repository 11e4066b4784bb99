-- `lane8` meets its contract: the lane is added to the totals before t.
use Prim.Native.Nat.{◌≤◌}
use Rattle.kernels.proofs.Laws.{Laning}
use Rattle.kernels.proofs.lane8.Given as goal

abbrev pub invariant-loop-t : goal.invariant-loop-t
invariant-loop-t l = (l.t ≤ 8) × Laning l.initial.totals l.block l.from l.x l.totals l.t
