-- Where two lists differ, and whether one holds a single value. Assumes nothing.
use Rattle.std.specs.Prelude.{ℕ, suc, Bool, false, cond, List, [], ◌∷◌, ◌==◌, is_nan, to_bits, Float, Option, Some, None}
use Rattle.std.specs.Float.{binary32}
use Rattle.std.specs.List.{list_all}
use Rattle.std.specs.Option.{option_map}

-- The first place where they differ
unfoldable pub apart : List ℕ → List ℕ → Option ℕ
apart [] ys = None
apart (x ∷ xs) [] = Some 0
apart (x ∷ xs) (y ∷ ys) = cond (y == x) (option_map suc (apart xs ys)) (Some 0)

abbrev pub holds_only : ℕ → List ℕ → Bool
holds_only value xs = list_all (λ x. x == value) xs

-- 0.0 by its bits: neither -0.0 nor a NaN
unfoldable pub is_zero : Float → Bool
is_zero x = cond (is_nan x) false (to_bits binary32 x == 0)

abbrev pub all_zero : List Float → Bool
all_zero xs = list_all is_zero xs
