-- What the functions lean on: a node's part of the lanes, the turns of `metric` and its tests. Assumes nothing.
use mathlib.Core.Path.{◌≡◌, refl, sym, ◌∙◌, ap, subst}
use mathlib.Core.Bool.{Bool, true, false, not}
use mathlib.Core.List.{List}
use Prim.Native.Nat.{ℕ, ◌+◌, ◌-◌, ◌*◌, ◌<◌, ◌≤◌}
use native.Mathlib.Nat.{mul-le-mul_right}
use native.Mathlib.Numerals.{add-one}
use native.Mathlib.Omega.{arith}
use lib.Dec.{T}
use lib.ListN.{length, take, drop, get_or, length-drop}
use lib.Seq.{drop-cons, drop-length, length-take-le}
use lib.Ieee.{Float, nan, inf, fin, binary32, is_nan, ne, to_bits}
use lib.Ieee.Compare.{differs_from_itself}
use borrow.Author.Tests.{le-leb, lt-leb}
use Rattle.std.specs.Prelude.{Some, None, is_some, unwrap_or}
use Rattle.rules.specs.Answers.{Distance}
use Rattle.rules.specs.Loops.{part}
use Rattle.rules.specs.Distance.{lane, total_of, fit, answer, largest, zero32, distance_of, lanes_of, measure_of, unfit, carried}
use Rattle.metrics.specs.Measured.{Lanes, Measured}

-- ---- a node's part

pub lanes_long : (lanes : List Float) (dimension node : ℕ) → (node + 1) * dimension ≤ length lanes → length (lanes_of lanes dimension node) ≡ dimension
unfolding lanes_of part
lanes_long lanes dimension node h =
    let room : dimension ≤ length (drop (node * dimension) lanes) = simp length-drop (omega arith) in
    length-take-le dimension (drop (node * dimension) lanes) room

-- as the code cuts it
pub part_of : (lanes : List Float) (dimension node : ℕ) → (node + 1) * dimension ≤ length lanes
    → Lanes lanes dimension node (take (node * dimension + dimension - node * dimension) (drop (node * dimension) lanes))
unfolding lanes_of part
part_of lanes dimension node h =
    let e : node * dimension + dimension - node * dimension ≡ dimension = omega arith in
    rw e (record { contents = refl; long = lanes_long lanes dimension node h })

-- a node below n has its lanes within n times dimension
pub room : (long n dimension : ℕ) (i : ℕ) → long ≡ n * dimension → i < n → (i + 1) * dimension ≤ long
room long n dimension i e l = rw e (mul-le-mul_right dimension (let h : i + 1 ≤ n = omega arith in h))

-- ---- the loop of `metric`

pub turn : (t : Float) (a b : List Float) (i : ℕ) → i < length a → i < length b
    → total_of (lane t (get_or a i nan) (get_or b i nan)) (drop (i + 1) a) (drop (i + 1) b) ≡ total_of t (drop i a) (drop i b)
unfolding total_of
turn t a b i p q = rw (add-one, drop-cons a i nan, drop-cons b i nan)

-- no lane is left
pub ended : (t : Float) (a b : List Float) (i : ℕ) → i ≡ length a → total_of t (drop i a) b ≡ t
unfolding total_of
ended t a b i e = rw (e, drop-length)

-- ---- its tests

-- what equals itself has bits
pub number : (x : Float) → ne x x ≡ false → T (not (is_nan x))
unfolding ne is_nan
number nan e = subst T e tt
number (inf s) e = tt
number (fin s m e) h = tt

pub of_nan : (x : Float) → ne x x ≡ true → answer x ≡ None
unfolding answer fit to_bits
of_nan x e = ap answer (differs_from_itself x (subst T (sym e) tt))

pub of_fit : (x : Float) → to_bits binary32 x ≤ largest → answer x ≡ Some x
unfolding answer fit
of_fit x h = rw (le-leb (to_bits binary32 x) largest h)

pub of_unfit : (x : Float) → largest < to_bits binary32 x → answer x ≡ None
unfolding answer fit
of_unfit x h = rw (lt-leb (to_bits binary32 x) largest h)

-- the answer of the whole total is the distance
pub measured : (a b : List Float) (r : Distance) (t : Float) → answer t ≡ r → t ≡ total_of zero32 a b → Measured a b r
unfolding distance_of
measured a b r t e w =
    let d : r ≡ distance_of a b = sym e ∙ ap answer w in
    record { answer = d; said = ap measure_of d }

-- the distance of the lanes that were cut out
pub of_parts : (r : Distance) (x y a b : List Float) → Measured x y r → x ≡ a → y ≡ b → r ≡ distance_of a b
of_parts r x y a b m e f = m.answer ∙ ap (λ (z : List Float). distance_of z y) e ∙ ap (distance_of a) f

-- ---- the methods of an answer

pub unfit_none : (d : Distance) (b : Bool) → is_some d ≡ not b → unfit d ≡ b
unfolding unfit
unfit_none (Some x) true h = cc
unfit_none (Some x) false h = refl
unfit_none None true h = refl
unfit_none None false h = cc

pub carried_or : (d : Distance) → unwrap_or d zero32 ≡ carried d
unfolding carried
carried_or (Some x) = refl
carried_or None = refl
