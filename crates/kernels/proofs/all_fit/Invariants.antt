-- `all_fit` meets its contract: the flag says whether the totals before the next are fit.
use mathlib.Core.Path.{◌≡◌}
use Prim.Native.Nat.{ℕ}
use lib.ListN.{get_or}
use lib.Ieee.{nan}
use Rattle.rules.specs.Distance.{fit}
use Rattle.zeros.specs.Zeros.{all_below}
use Rattle.kernels.proofs.all_fit.Given as goal

abbrev pub invariant-loop-total : goal.invariant-loop-total
invariant-loop-total l = l.all ≡ all_below (λ (u : ℕ). fit (get_or l.fn.totals u nan)) l.total-index
