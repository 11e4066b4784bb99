-- `totals4` meets its contract: what is left to add, added to the totals so far, is the whole.
use Prim.Native.Nat.{◌≤◌}
use lib.ListN.{length}
use Rattle.kernels.proofs.Fours.{Left}
use Rattle.kernels.proofs.totals4.Given as goal

abbrev pub invariant-loop-l : goal.invariant-loop-l
invariant-loop-l l = (l.l ≤ length l.x) × Left l.x l.a l.ta l.l × Left l.x l.b l.tb l.l × Left l.x l.c l.tc l.l × Left l.x l.d l.td l.l
