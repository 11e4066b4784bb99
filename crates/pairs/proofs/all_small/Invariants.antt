-- `all_small` meets its contract: the flag says whether all so far are small. Assumes nothing.
use mathlib.Core.Path.{◌≡◌}
use Prim.Native.Nat.{ℕ, ◌≤◌}
use lib.ListN.{length, get_or}
use lib.Ieee.{nan}
use Rattle.zeros.specs.Zeros.{all_below}
use Rattle.pairs.specs.Within.{within}
use Rattle.pairs.proofs.all_small.Given as goal

abbrev pub invariant-loop-i : goal.invariant-loop-i
invariant-loop-i l = (l.i ≤ length l.lanes) × (l.all ≡ all_below (λ (j : ℕ). within 30 (get_or l.lanes j nan)) l.i)
