-- With finite lanes the distance of a vector with itself is 0.0. Assumes nothing.
use mathlib.Core.Path.{◌≡◌, refl, ◌∙◌, ap}
use mathlib.Core.Bool.{Bool, true, false, not}
use mathlib.Core.List.{List, [], ◌∷◌}
use Prim.Native.Nat.{ℕ, ◌*◌}
use native.Mathlib.Nat.{mul-pos, zero-lt-suc}
use native.Mathlib.Omega.{arith}
use lib.Dec.{T}
use lib.IntN.{pos}
use lib.Ieee.{Float, nan, inf, fin, binary32, up, down, round, add, sub, mul, of_bits, to_bits}
use lib.Ieee.Fits.{down_pos}
use lib.Ieee.Scale.{round_same, finite}
use Rattle.std.specs.Prelude.{Some}
use Rattle.rules.specs.Distance.{lane, total_of, fit, answer, zero32, distance_of, lanes_of, nodes_apart, carried, between}
use Rattle.metrics.specs.Finite.{AllFinite}
use Rattle.metrics.proofs.Symmetry.{size, square, spread, size-sum}

-- a difference with itself is a zero
pub no_gap : (x : Float) → T (finite x) → size (sub binary32 x x) ≡ fin false 0 (pos 0)
unfolding sub
no_gap nan h = absurd h
no_gap (inf s) h = absurd h
no_gap (fin s m e) h =
    let a = m * up e * down e in
    let c = down e * down e in
    size-sum binary32 s (not s) a a c
    ∙ ap (λ (z : ℕ). round binary32 false z c) (gap s a)
    ∙ round_same binary32 false 0 c 0 1 (mul-pos (down_pos e) (down_pos e)) (zero-lt-suc 0) (omega arith)
  where
    gap : (s : Bool) (a : ℕ) → spread s (not s) a a ≡ 0
    gap true a = omega arith
    gap false a = omega arith

lane_self : (x : Float) → T (finite x) → lane zero32 x x ≡ zero32
unfolding lane add mul of_bits
lane_self x h = rw (square binary32 (sub binary32 x x), no_gap x h)

pub total_self : (a : List Float) → AllFinite a → total_of zero32 a a ≡ zero32
unfolding total_of AllFinite
total_self [] h = refl
total_self (x ∷ a) h = ap (λ (z : Float). total_of z a a) (lane_self x h.0) ∙ total_self a h.1

pub distance_self : (a : List Float) → AllFinite a → distance_of a a ≡ Some zero32
unfolding distance_of answer fit to_bits of_bits
distance_self a h = ap answer (total_self a h)

pub between_self : (lanes : List Float) (dimension i : ℕ) → AllFinite (lanes_of lanes dimension i) → between lanes dimension i i ≡ zero32
unfolding between nodes_apart carried
between_self lanes dimension i h = ap carried (distance_self (lanes_of lanes dimension i) h)
