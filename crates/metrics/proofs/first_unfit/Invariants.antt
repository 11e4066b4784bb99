-- `first_unfit` meets its contract: the first i from here on that has an unfit pair is the first of all.
use mathlib.Core.Path.{◌≡◌}
use mathlib.Core.Bool.{Bool}
use mathlib.Core.List.{List}
use Prim.Native.Nat.{ℕ, ◌≤◌, ◌-◌}
use lib.Dec.{ltb}
use lib.Ieee.{Float}
use Rattle.rules.specs.Loops.{first_from}
use Rattle.rules.specs.Distance.{nodes_apart}
use Rattle.rules.specs.Refusals.{unfit_after, first_unfit}
use Rattle.metrics.proofs.first_unfit.Given as goal

-- the test of one place
abbrev pub test : List Float → ℕ → ℕ → ℕ → Bool
test lanes dimension n i = ltb (unfit_after (nodes_apart lanes dimension) n i) n

abbrev pub invariant-loop-v : goal.invariant-loop-v
invariant-loop-v l = (l.v ≤ l.n) × (first_from (test l.lanes l.dimension l.n) l.v (l.n - l.v) ≡ first_unfit (nodes_apart l.lanes l.dimension) l.n)
