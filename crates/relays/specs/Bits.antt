-- Floats by their bits, beside a list's numbers. Assumes nothing.
use Rattle.std.specs.Prelude.{ℕ, ◌+◌, cond, List, [], ◌∷◌, ◌==◌, is_nan, to_bits, Float}
use Rattle.std.specs.Float.{binary32}

-- A NaN's bits count as all ones
unfoldable pub bits_of : Float → ℕ
bits_of x = cond (is_nan x) 0xFFFFFFFF (to_bits binary32 x)

-- How many of our floats have the bits that the list has in their place
unfoldable pub agreeing : List Float → List ℕ → ℕ
agreeing [] ws = 0
agreeing (x ∷ xs) [] = 0
agreeing (x ∷ xs) (w ∷ ws) = cond (w == bits_of x) 1 0 + agreeing xs ws
