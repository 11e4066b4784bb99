-- What a fit distance is: a value of binary32 that is no NaN, not infinite and not negative. Assumes nothing.
use mathlib.Core.Path.{◌≡◌, refl, sym, subst}
use mathlib.Core.Bool.{Bool, true, false, cond}
use mathlib.Core.List.{List}
use Prim.Native.Nat.{ℕ, ◌≤◌}
use native.Mathlib.Omega.{arith}
use lib.Dec.{T}
use lib.IntN.{ℤ}
use lib.Ieee.{Float, nan, inf, fin, binary32, to_bits, of_bits, fits}
use lib.Ieee.Bits.{of_bits-fits}
use borrow.Author.Tests.{leb-true}
use Rattle.std.specs.Prelude.{Some, None}
use Rattle.rules.specs.Answers.{Distance}
use Rattle.rules.specs.Distance.{total_of, fit, answer, largest, zero32, distance_of, unfit, carried, lanes_of, nodes_apart, query_apart, between}
use Rattle.rules.proofs.Distances.{total-fits}

-- ---- a fit value

pub zero-fit : fit zero32 ≡ true
unfolding fit to_bits of_bits
zero-fit = refl

pub fit-bits : (x : Float) → fit x ≡ true → to_bits binary32 x ≤ largest
unfolding fit
fit-bits x h = leb-true (to_bits binary32 x) largest h

-- finite, and its sign is plus
pub record Plain (x : Float) : Type 0 where
  pub digits : ℕ
  pub exponent : ℤ
  pub is : x ≡ fin false digits exponent

pub fit_plain : (x : Float) → fit x ≡ true → Plain x
unfolding to_bits
fit_plain x h = go x (fit-bits x h)
  where
    go : (x : Float) → to_bits binary32 x ≤ largest → Plain x
    go nan l = absurd (omega arith)
    go (inf true) l = absurd (omega arith)
    go (inf false) l = absurd (omega arith)
    go (fin true m e) l = absurd (omega arith)
    go (fin false m e) l = record { digits = m; exponent = e; is = refl }

-- ---- what a distance answer carries, where it is unfit too: 0.0 is fit

pub carried-fit : (a b : List Float) → fit (carried (distance_of a b)) ≡ true
unfolding distance_of answer carried
carried-fit a b = go (fit (total_of zero32 a b)) refl
  where
    go : (t : Bool) → fit (total_of zero32 a b) ≡ t → fit (carried (cond t (Some (total_of zero32 a b)) None)) ≡ true
    go true e = e
    go false e = zero-fit

pub carried-fits : (a b : List Float) → T (fits binary32 (carried (distance_of a b)))
unfolding distance_of answer carried
carried-fits a b = go (fit (total_of zero32 a b))
  where
    go : (t : Bool) → T (fits binary32 (carried (cond t (Some (total_of zero32 a b)) None)))
    go true = total-fits zero32 a b (of_bits-fits binary32 0)
    go false = of_bits-fits binary32 0

pub between-fit : (lanes : List Float) (dimension i j : ℕ) → fit (between lanes dimension i j) ≡ true
unfolding between nodes_apart
between-fit lanes dimension i j = carried-fit (lanes_of lanes dimension i) (lanes_of lanes dimension j)

pub between-fits : (lanes : List Float) (dimension i j : ℕ) → T (fits binary32 (between lanes dimension i j))
unfolding between nodes_apart
between-fits lanes dimension i j = carried-fits (lanes_of lanes dimension i) (lanes_of lanes dimension j)

-- what any distance answer that carries a distance says of it
module _ (a b : List Float) (x : Float) (e : distance_of a b ≡ Some x) where
  pub distance-fit : fit x ≡ true
  unfolding carried
  distance-fit = rw e at (carried-fit a b)

  pub distance-fits : T (fits binary32 x)
  unfolding carried
  distance-fits = rw e at (carried-fits a b)

module _ (lanes : List Float) (dimension : ℕ) (query : List Float) (i : ℕ) (x : Float) (e : query_apart lanes dimension query i ≡ Some x) where
  pub query-fit : fit x ≡ true
  unfolding query_apart
  query-fit = distance-fit (lanes_of lanes dimension i) query x e

  pub query-fits : T (fits binary32 x)
  unfolding query_apart
  query-fits = distance-fits (lanes_of lanes dimension i) query x e

-- an answer that is not unfit is the one that carries its distance
pub is_carried : (d : Distance) → unfit d ≡ false → d ≡ Some (carried d)
unfolding unfit carried
is_carried (Some x) h = refl
is_carried None h = absurd (subst T h tt)

pub answer-fit : (x : Float) → unfit (answer x) ≡ false → fit x ≡ true
unfolding answer unfit
answer-fit x h = go (fit x) h
  where
    go : (t : Bool) → unfit (cond t (Some x) None) ≡ false → t ≡ true
    go true e = refl
    go false e = sym e
