-- Floats of bounded size. Assumes nothing.
use Rattle.std.specs.Prelude.{Bool, false, List, ℕ, ◌*◌, ◌^◌, leb, length, get_or, Float}
use Rattle.std.specs.Float.{nan, inf, fin}
use Rattle.std.specs.Float.Ieee.{up, down}
use Rattle.zeros.specs.Zeros.{all_below}

-- finite, and at most 2 ^ b in size
unfoldable pub within : ℕ → Float → Bool
within b nan = false
within b (inf s) = false
within b (fin s m e) = leb (m * up e) (2 ^ b * down e)

-- each of a list is
unfoldable pub all_within : ℕ → List Float → Bool
all_within b xs = all_below (λ (i : ℕ). within b (get_or xs i nan)) (length xs)
