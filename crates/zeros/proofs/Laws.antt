-- Zeros from a place on, and a test of every place below a number. Assumes nothing.
use mathlib.Core.Path.{◌≡◌, refl, sym, ap, ◌∙◌}
use mathlib.Core.Bool.{Bool, true, false, ◌&&◌}
use mathlib.Core.List.{List}
use Prim.Native.Nat.{ℕ, zero, suc, ◌+◌, ◌-◌, ◌<◌, min}
use native.Mathlib.Nat.{not-suc-le-zero}
use native.Mathlib.Numerals.{add-one}
use native.Mathlib.Omega.{arith}
use borrow.Author.Tests.{ltb-true, ltb-false}
use lib.Dec.{eqb, ltb}
use lib.ListN.{length, take, drop}
use lib.Ieee.{Float, nan, inf, fin, binary32, is_nan, to_bits}
use Rattle.std.proofs.lemmas.List.{take_rest, drop_min}
use Rattle.zeros.specs.Zeros.{all_below}

-- a NaN's bits are not zero
pub bits_nan : (x : Float) → is_nan x ≡ true → eqb (to_bits binary32 x) 0 ≡ false
unfolding is_nan to_bits
bits_nan nan e = refl
bits_nan (inf s) e = cc
bits_nan (fin s m d) e = cc

-- a range that begins at a place, or at the end where the place is beyond it
pub from_within : {A : Type 0} (xs : List A) (from m : ℕ) → m ≡ min from (length xs) → take (length xs - m) (drop m xs) ≡ drop from xs
from_within xs from m e = take_rest xs m ∙ ap (λ (i : ℕ). drop i xs) e ∙ drop_min from xs

-- ---- every place below a number

module _ (p : ℕ → Bool) where
  pub all_none : all_below p 0 ≡ true
  unfolding all_below
  all_none = refl

  pub all_turn : (i : ℕ) → all_below p i ≡ true → p i ≡ true → all_below p (i + 1) ≡ true
  unfolding all_below
  all_turn i h e = rw (add-one, h, e)

  pub all-at : (n i : ℕ) → all_below p n ≡ true → i < n → p i ≡ true
  unfolding all_below
  all-at zero i h l = absurd (not-suc-le-zero l)
  all-at (suc n) i h l = go (all_below p n) refl h (ltb i n) refl (all-at n i)
    where
      go : (a : Bool) → all_below p n ≡ a → (a && p n) ≡ true → (t : Bool) → ltb i n ≡ t → (all_below p n ≡ true → i < n → p i ≡ true) → p i ≡ true
      go true A h true q ih = ih A (ltb-true i n q)
      go true A h false q ih = let m = ltb-false i n q in let same : i ≡ n = omega arith in ap p same ∙ h
      go false A h t q ih = let z : ◌≡◌ {A = ℕ} 0 1 = cc in absurd (omega arith)

  pub all_of : (n : ℕ) → ((i : ℕ) → i < n → p i ≡ true) → all_below p n ≡ true
  unfolding all_below
  all_of zero f = refl
  all_of (suc n) f = rw (all_of n (λ (i : ℕ) (h : i < n). f i (omega arith)), f n (omega arith))

  pub all-not : (n i : ℕ) → i < n → p i ≡ false → all_below p n ≡ false
  all-not n i l e = go (all_below p n) refl
    where
      go : (b : Bool) → all_below p n ≡ b → b ≡ false
      go true h = sym (all-at n i h l) ∙ e
      go false h = refl
