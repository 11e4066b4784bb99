-- The setters together: the last one of a parameter counts, two of different parameters may change places, and the defaults are in range. Assumes nothing.
use mathlib.Core.Path.{◌≡◌, refl}
use mathlib.Core.List.{[], ◌∷◌}
use Prim.Native.Nat.{ℕ}
use lib.Ieee.{Float, binary32, of_bits, le}
use Rattle.rules.specs.Loops.{any_of}
use Rattle.rules.specs.Numbers.{outside, most, most_hops, bad_threshold}
use Rattle.rules.specs.Refusals.{decide, passed, row4, row5}
use Rattle.params.specs.declared.SsgParams.{SsgParams}
use Rattle.params.specs.Params.{params, defaults, with_threshold, with_init_k, with_index_size, with_neighbor_neighbor_size, sizes_of}

-- all four set: nothing of the parameters before is left, and the order does not matter
pub all_set : (p : SsgParams) (t : Float) (k size hops : ℕ) → with_threshold (with_init_k (with_index_size (with_neighbor_neighbor_size p hops) size) k) t ≡ params t k size hops
all_set p t k size hops = refl

pub any_order : (p : SsgParams) (t : Float) (k size hops : ℕ)
    → with_neighbor_neighbor_size (with_index_size (with_init_k (with_threshold p t) k) size) hops ≡ with_threshold (with_init_k (with_index_size (with_neighbor_neighbor_size p hops) size) k) t
any_order p t k size hops = refl

-- set again
pub last_counts : (p : SsgParams) (a b : ℕ) → with_init_k (with_init_k p a) b ≡ with_init_k p b
last_counts p a b = refl

-- the settled squares' parameters, from the defaults
pub squares : sizes_of (with_neighbor_neighbor_size (with_index_size (with_init_k defaults 2) 2) 10)
    ≡ record { init_k = 2; index_size = 2; neighbor_neighbor_size = 10; threshold = of_bits binary32 0x3F000000 }
squares = refl

-- rows 4 and 5 pass the defaults
pub in_range : let p = sizes_of defaults in
    decide (row4 (outside 1 most p.init_k ∷ outside 1 most p.index_size ∷ outside 1 most_hops p.neighbor_neighbor_size ∷ []) ∷ row5 p.threshold ∷ []) ≡ passed
unfolding decide row4 row5 any_of outside bad_threshold le of_bits
in_range = refl
