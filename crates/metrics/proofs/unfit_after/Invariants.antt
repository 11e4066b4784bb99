-- `unfit_after` meets its contract: the first unfit place from j on is the first after i.
use mathlib.Core.Path.{◌≡◌}
use mathlib.Core.Bool.{Bool}
use mathlib.Core.List.{List}
use Prim.Native.Nat.{ℕ, ◌≤◌, ◌-◌}
use lib.Ieee.{Float}
use Rattle.rules.specs.Loops.{first_from}
use Rattle.rules.specs.Distance.{unfit, nodes_apart}
use Rattle.rules.specs.Refusals.{unfit_after}
use Rattle.metrics.proofs.unfit_after.Given as goal

-- the test of one place
abbrev pub test : List Float → ℕ → ℕ → ℕ → Bool
test lanes dimension i j = unfit (nodes_apart lanes dimension i j)

abbrev pub invariant-loop-v : goal.invariant-loop-v
invariant-loop-v l = (l.v ≤ l.n) × (first_from (test l.lanes l.dimension l.i.0) l.v (l.n - l.v) ≡ unfit_after (nodes_apart l.lanes l.dimension) l.n l.i.0)
