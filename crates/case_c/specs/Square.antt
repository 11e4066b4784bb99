-- What square C is built of. Assumes nothing.
use Rattle.std.specs.Prelude.{List, [], ◌∷◌, ℕ, Float}
use Rattle.std.specs.Float.{binary32}
use Rattle.std.specs.Float.Ieee.{of_bits}
use Rattle.params.specs.declared.SsgParams.{SsgParams}
use Rattle.params.specs.Params.{params}

-- "Lanes 0, 1, 3, 7"
abbrev pub lanes_of_squares : List Float
lanes_of_squares = of_bits binary32 0 ∷ of_bits binary32 0x3F800000 ∷ of_bits binary32 0x40400000 ∷ of_bits binary32 0x40E00000 ∷ []

-- "`init_k` 2; .. `neighbor_neighbor_size` 10; threshold 0.5", with either `index_size` of C
abbrev pub params_of_squares : ℕ → SsgParams
params_of_squares index_size = params (of_bits binary32 0x3F000000) 2 index_size 10
