-- The distance is symmetric, bit for bit: a - b and b - a differ at most in their sign, and a square has none. Assumes nothing.
use mathlib.Core.Path.{◌≡◌, refl, sym, ◌∙◌, ap}
use mathlib.Core.Bool.{Bool, true, false, not, ◌&&◌, beq, cond}
use mathlib.Core.List.{List, [], ◌∷◌}
use Prim.Native.Nat.{ℕ, zero, suc, ◌+◌, ◌-◌, ◌*◌, ◌^◌, ◌<◌, ◌≤◌}
use native.Mathlib.Nat.{add_comm, mul_comm}
use native.Mathlib.Omega.{arith}
use lib.Dec.{T, ltb, ltb→lt, nltb→le}
use lib.Ieee.{Float, nan, inf, fin, Format, binary32, prec, emax, low, up, down, odd, units, round, sum, add, sub, mul}
use lib.Ieee.Fits.{round_is}
use Rattle.rules.specs.Distance.{lane, total_of, answer, zero32, distance_of, lanes_of, nodes_apart, between, carried}

-- ---- a value without its sign

abbrev pub size : Float → Float
size nan = nan
size (inf s) = inf false
size (fin s m e) = fin false m e

pub square : (f : Format) (x : Float) → mul f x x ≡ mul f (size x) (size x)
unfolding mul
square f nan = refl
square f (inf true) = refl
square f (inf false) = refl
square f (fin true m e) = refl
square f (fin false m e) = refl

-- rounding looks at the sign last
pub size-round : (f : Format) (s : Bool) (a c : ℕ) → size (round f s a c) ≡ round f false a c
unfolding odd units
size-round f s a c = ap size (round_is f s a c) ∙ in_units _ _ ∙ sym (round_is f false a c)
  where
    in_odd : (d q k l : ℕ) → size (odd d s q k l) ≡ odd d false q k l
    in_odd d zero k l = refl
    in_odd d (suc q) k l = refl

    in_units : (q k : ℕ) → size (units f s q k) ≡ units f false q k
    in_units q k = go (ltb (q * 2 ^ k) (2 ^ (low f + suc (emax f))))
      where
        go : (b : Bool) → size (cond b (odd (suc (prec f)) s q k (low f)) (inf s)) ≡ cond b (odd (suc (prec f)) false q k (low f)) (inf false)
        go true = in_odd (suc (prec f)) q k (low f)
        go false = refl

-- ---- a sum without its sign: of one sign the sum of the two, of two the gap

abbrev pub spread : Bool → Bool → ℕ → ℕ → ℕ
spread s t a b = cond (beq s t) (a + b) (a - b + (b - a))

pub size-sum : (f : Format) (s t : Bool) (a b c : ℕ) → size (sum f s a t b c) ≡ round f false (spread s t a b) c
unfolding sum
size-sum f s t a b c = go (beq s t) (ltb a b) (ltb→lt a b) (nltb→le a b)
  where
    rounded : (s : Bool) (x y : ℕ) → x ≡ y → size (round f s x c) ≡ round f false y c
    rounded s x y e = size-round f s x c ∙ ap (λ (z : ℕ). round f false z c) e

    go : (p q : Bool) → (T q → a < b) → (T (not q) → b ≤ a)
        → size (cond p (round f s (a + b) c) (cond q (round f t (b - a) c) (round f (s && ltb b a) (a - b) c))) ≡ round f false (cond p (a + b) (a - b + (b - a))) c
    go true q l g = rounded s (a + b) (a + b) refl
    go false true l g = let h : a < b = l tt in rounded t (b - a) (a - b + (b - a)) (omega arith)
    go false false l g = let h : b ≤ a = g tt in rounded (s && ltb b a) (a - b) (a - b + (b - a)) (omega arith)

swap : (s t : Bool) (a b : ℕ) → spread s (not t) a b ≡ spread t (not s) b a
swap true true a b = add_comm (a - b) (b - a)
swap true false a b = add_comm a b
swap false true a b = add_comm a b
swap false false a b = add_comm (a - b) (b - a)

pub difference : (f : Format) (x y : Float) → size (sub f x y) ≡ size (sub f y x)
unfolding sub
difference f nan nan = refl
difference f nan (inf t) = refl
difference f nan (fin t n d) = refl
difference f (inf s) nan = refl
difference f (inf true) (inf true) = refl
difference f (inf true) (inf false) = refl
difference f (inf false) (inf true) = refl
difference f (inf false) (inf false) = refl
difference f (inf s) (fin t n d) = refl
difference f (fin s m e) nan = refl
difference f (fin s m e) (inf t) = refl
difference f (fin s m e) (fin t n d) =
    let a = m * up e * down d in
    let b = n * up d * down e in
    size-sum f s (not t) a b (down e * down d)
    ∙ ap (λ (z : ℕ). round f false z (down e * down d)) (swap s t a b)
    ∙ ap (round f false (spread t (not s) b a)) (mul_comm (down e) (down d))
    ∙ sym (size-sum f t (not s) b a (down d * down e))

-- ---- the distance

pub lane-symmetric : (total a b : Float) → lane total a b ≡ lane total b a
unfolding lane
lane-symmetric total a b =
    ap (add binary32 total)
    (square binary32 (sub binary32 a b) ∙ ap (λ (z : Float). mul binary32 z z) (difference binary32 a b) ∙ sym (square binary32 (sub binary32 b a)))

pub total-symmetric : (total : Float) (a b : List Float) → total_of total a b ≡ total_of total b a
unfolding total_of
total-symmetric total [] [] = refl
total-symmetric total [] (b ∷ y) = refl
total-symmetric total (a ∷ x) [] = refl
total-symmetric total (a ∷ x) (b ∷ y) = ap (λ (z : Float). total_of z x y) (lane-symmetric total a b) ∙ total-symmetric (lane total b a) x y

pub distance-symmetric : (a b : List Float) → distance_of a b ≡ distance_of b a
unfolding distance_of
distance-symmetric a b = ap answer (total-symmetric zero32 a b)

pub apart-symmetric : (lanes : List Float) (dimension i j : ℕ) → nodes_apart lanes dimension i j ≡ nodes_apart lanes dimension j i
unfolding nodes_apart
apart-symmetric lanes dimension i j = distance-symmetric (lanes_of lanes dimension i) (lanes_of lanes dimension j)

pub between-symmetric : (lanes : List Float) (dimension i j : ℕ) → between lanes dimension i j ≡ between lanes dimension j i
unfolding between
between-symmetric lanes dimension i j = ap carried (apart-symmetric lanes dimension i j)
