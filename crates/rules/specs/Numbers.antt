-- "Numbers": the ranges. Assumes nothing.
use Rattle.std.specs.Prelude.{Bool, not, ◌&&◌, ◌||◌, ℕ, ltb, Float}
use Rattle.std.specs.Float.{binary32}
use Rattle.std.specs.Float.Ieee.{of_bits, le}

unfoldable pub outside : ℕ → ℕ → ℕ → Bool
outside low high x = ltb x low || ltb high x

-- "n: 2 to 4,096 (descent and relay: 2 to 1,024)."
abbrev pub most_nodes : ℕ
most_nodes = 4096

abbrev pub most_taught : ℕ
most_taught = 1024

-- "Dimension: 1 to 64. `init_k`, `index_size`, search k, descent k (which is the relay's too): 1 to 64."
abbrev pub most : ℕ
most = 64

-- "`neighbor_neighbor_size`: 1 to 256."
abbrev pub most_hops : ℕ
most_hops = 256

-- 1.0 and -1.0
abbrev pub one : Float
one = of_bits binary32 0x3F800000

abbrev pub minus_one : Float
minus_one = of_bits binary32 0xBF800000

-- "Threshold: -1 to 1, not NaN." No comparison holds of a NaN.
unfoldable pub bad_threshold : Float → Bool
bad_threshold t = not (le minus_one t && le t one)
