-- `walk::enter` meets its contract: the first `i` have entered. Assumes nothing.
use Prim.Native.Nat.{◌≤◌}
use Rattle.walk.proofs.Starts.{Entering}
use Rattle.walk.proofs.enter.Given as goal

abbrev pub invariant-loop-i : goal.invariant-loop-i
invariant-loop-i l = (l.i ≤ l.m) × Entering l.n l.initial.words l.initial.floats l.words l.floats l.i
