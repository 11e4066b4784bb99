-- When two lists hold the same: all of them, or their first places. Assumes nothing.
use Rattle.std.specs.Prelude.{Bool, false, cond, List, ℕ, eqb, take, Float}
use Rattle.std.specs.Cmp.Lexicographic.{pointwise}
use Rattle.std.specs.List.{list_all, zip}
use Rattle.std.specs.Float.{binary32}
use Rattle.std.specs.Float.Ieee.{is_nan, to_bits}

module _ {A : Type 0} (same : A → A → Bool) where
  abbrev pub alike : List A → List A → Bool
  alike xs ys = pointwise same xs ys

  -- the first n places, as far as both lists go
  abbrev pub alike_to : ℕ → List A → List A → Bool
  alike_to n xs ys = list_all (λ p. same p.0 p.1) (take n (zip xs ys))

-- The same bits; a NaN is as any other
unfoldable pub same_bits : Float → Float → Bool
same_bits x y = cond (is_nan x) (is_nan y) (cond (is_nan y) false (eqb (to_bits binary32 x) (to_bits binary32 y)))
