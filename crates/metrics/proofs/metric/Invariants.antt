-- `metric` meets its contract: what is left to add, added to the total so far, is the whole total.
use mathlib.Core.Path.{◌≡◌}
use Prim.Native.Nat.{◌≤◌}
use lib.ListN.{length, drop}
use Rattle.rules.specs.Distance.{total_of}
use Rattle.metrics.proofs.metric.Given as goal

abbrev pub invariant-loop-i : goal.invariant-loop-i
invariant-loop-i l = (l.i ≤ length l.a) × (total_of l.total (drop l.i l.a) (drop l.i l.b) ≡ total_of l.initial.total l.a l.b)
