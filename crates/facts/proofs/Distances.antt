-- The distance of two nodes of a game is symmetric and fit, so that the facts hold of it. Assumes nothing.
use mathlib.Core.List.{List}
use Prim.Native.Nat.{ℕ}
use lib.Ieee.{Float}
use Rattle.rules.specs.Distance.{between}
use Rattle.metrics.proofs.Symmetry.{between-symmetric}
use Rattle.metrics.proofs.Fitness.{between-fit, between-fits}
use Rattle.facts.specs.Distances.{SymmetricFit}

pub between-symmetric-fit : (lanes : List Float) (dimension : ℕ) → SymmetricFit (between lanes dimension)
between-symmetric-fit lanes dimension =
    record { symmetric = between-symmetric lanes dimension; single = between-fits lanes dimension; fits = between-fit lanes dimension }
