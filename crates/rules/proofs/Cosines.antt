-- Step 3's cosine where it is zero over zero: a NaN, which occludes at no threshold. Assumes nothing.
use mathlib.Core.Path.{◌≡◌, refl}
use mathlib.Core.Bool.{Bool, false, ◌||◌, ◌&&◌}
use lib.Dec.{eqb}
use lib.Ieee.{Float, nan, inf, fin, of_bits, add, sub, mul, div, lt}
use Rattle.rules.specs.declared.Neighbor.{Neighbor}
use Rattle.rules.specs.Distance.{zero32}
use Rattle.rules.specs.Lists.{node_of}
use Rattle.rules.specs.Build.{Between, cosine, occludes}

-- no comparison holds of a NaN
pub under_nan : (x : Float) → lt x nan ≡ false
unfolding lt
under_nan nan = refl
under_nan (inf s) = refl
under_nan (fin s m e) = refl

-- "NaN does not occlude.": in step 5 an equal node still does
pub nan-leaves : (d : Between) (threshold : Float) (equal_too : Bool) (p r : Neighbor) → cosine p.distance r.distance (d (node_of p) (node_of r)) ≡ nan
    → occludes d threshold equal_too p r ≡ ((equal_too && eqb (node_of p) (node_of r)) || false)
unfolding occludes
nan-leaves d threshold equal_too p r h = rw (h, under_nan threshold)

-- "dp = dr = djk = 0": zero over zero is a NaN
pub zero-over-zero : cosine zero32 zero32 zero32 ≡ nan
unfolding cosine of_bits add sub mul div
zero-over-zero = refl

-- so at every threshold there is no occlusion
pub zeros-apart : (d : Between) (threshold : Float) (p r : Neighbor) → p.distance ≡ zero32 → r.distance ≡ zero32 → d (node_of p) (node_of r) ≡ zero32
    → occludes d threshold false p r ≡ false
zeros-apart d threshold p r dp dr djk = nan-leaves d threshold false p r (rw (dp, dr, djk) zero-over-zero)
