-- Four nodes at once: their totals, and their distances. Assumes nothing.
use Rattle.std.specs.Prelude.{◌≡◌, List, ℕ, Float}
use Rattle.rules.specs.Distance.{total_of, zero32}
use Rattle.kernels.specs.declared.Four.{Four}

-- the totals of x and the four
pub record Fours (x a b c d : List Float) (r : Four) : Type 0 where
  pub first : r.a ≡ total_of zero32 x a
  pub second : r.b ≡ total_of zero32 x b
  pub third : r.c ≡ total_of zero32 x c
  pub fourth : r.d ≡ total_of zero32 x d

-- what a distance says of four nodes
pub record Apart4 (apart : ℕ → Float) (a b c d : ℕ) (r : Four) : Type 0 where
  pub first : r.a ≡ apart a
  pub second : r.b ≡ apart b
  pub third : r.c ≡ apart c
  pub fourth : r.d ≡ apart d
