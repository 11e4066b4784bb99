-- What the facts ask of a distance: that it is symmetric and fit. Assumes nothing.
use Rattle.std.specs.Prelude.{◌≡◌, true, ℕ, T}
use Rattle.std.specs.Float.{binary32}
use Rattle.std.specs.Float.Ieee.{fits}
use Rattle.rules.specs.Distance.{fit}
use Rattle.rules.specs.Build.{Between}

-- a distance of two nodes, in binary32, the same either way round, with "its bits, as a whole number, .. at most 0x7F7FFFFE"
pub record SymmetricFit (d : Between) : Type 0 where
  pub symmetric : (i j : ℕ) → d i j ≡ d j i
  pub single : (i j : ℕ) → T (fits binary32 (d i j))
  pub fits : (i j : ℕ) → fit (d i j) ≡ true
