-- What square E searches. Assumes nothing.
use Rattle.std.specs.Prelude.{List, [], ◌∷◌, ℕ, Float}
use Rattle.std.specs.Float.{binary32}
use Rattle.std.specs.Float.Ieee.{of_bits}

-- "Lanes 0, 1, 3, 7"
abbrev pub lanes_of_squares : List Float
lanes_of_squares = of_bits binary32 0 ∷ of_bits binary32 0x3F800000 ∷ of_bits binary32 0x40400000 ∷ of_bits binary32 0x40E00000 ∷ []

-- "C: graph 1,2 / 0,2 / 1,2 / 2,4."
abbrev pub graph_of_c : List ℕ
graph_of_c = 1 ∷ 2 ∷ 0 ∷ 2 ∷ 1 ∷ 2 ∷ 2 ∷ 4 ∷ []

-- "E: roots 0,3, .. query 7"
abbrev pub roots_of_e : List ℕ
roots_of_e = 0 ∷ 3 ∷ []

abbrev pub query_of_e : List Float
query_of_e = of_bits binary32 0x40E00000 ∷ []
