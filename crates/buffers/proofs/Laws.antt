-- A slice written from the front on. Assumes nothing.
use mathlib.Core.Path.{◌≡◌, refl, ap, ◌∙◌}
use mathlib.Core.List.{List, [], ◌∷◌, ◌++◌, append-nil}
use Prim.Native.Nat.{ℕ, zero, suc, ◌+◌, ◌≤◌, ◌<◌}
use native.Mathlib.Nat.{le_of_suc-le-suc, not-suc-le-zero}
use native.Mathlib.Numerals.{add-one}
use lib.ListN.{length, drop, get_or, set, replicate, length-set, length-replicate, get_or-replicate, drop_of_length-le}
use lib.Seq.{take_all}
use Rattle.rules.specs.Loops.{over}

module _ {A : Type 0} where
  -- the place behind what is written, written
  over-more : (src dst : List A) (i : ℕ) (z : A) → i < length src → i < length dst → set (over i src dst) i (get_or src i z) ≡ over (suc i) src dst
  unfolding over
  over-more [] dst i z h k = absurd (not-suc-le-zero h)
  over-more (x ∷ src) [] i z h k = absurd (not-suc-le-zero k)
  over-more (x ∷ src) (y ∷ dst) zero z h k = refl
  over-more (x ∷ src) (y ∷ dst) (suc i) z h k = ap (λ (l : List A). x ∷ l) (over-more src dst i z (le_of_suc-le-suc h) (le_of_suc-le-suc k))

  -- the first i of src stand over those of dst
  pub record Written (src dst now : List A) (i : ℕ) : Type 0 where
    pub long : length now ≡ length dst
    pub list : now ≡ over i src dst

  pub written_none : (src dst : List A) → Written src dst dst 0
  unfolding over
  written_none src dst = record { long = refl; list = refl }

  pub written-more : {src dst now : List A} {i : ℕ} (v z : A) → Written src dst now i → i < length src → i < length dst → get_or src i z ≡ v → Written src dst (set now i v) (i + 1)
  written-more {src} {dst} {now} {i} v z inv h k e =
      record { long = simp length-set inv.long; list = rw (add-one, inv.list, ← e) (over-more src dst i z h k) }

  -- every place holds a
  pub filled_more : {dst now : List A} {i : ℕ} (a : A) → Written (replicate (length dst) a) dst now i → i < length dst → Written (replicate (length dst) a) dst (set now i a) (i + 1)
  filled_more {dst} {now} {i} a inv h =
      written-more a a inv (rw (length-replicate (length dst) a) h) h (get_or-replicate (length dst) i a a h)

  pub filled-end : (a : A) {dst now : List A} {i : ℕ} → Written (replicate (length dst) a) dst now i → length dst ≤ i → now ≡ replicate (length dst) a
  unfolding over
  filled-end a {dst} {now} {i} inv h =
      inv.list ∙ ap (λ (l : List A). l ++ drop i dst) (take_all i (replicate (length dst) a) (rw (length-replicate (length dst) a) h))
      ∙ ap (λ (l : List A). replicate (length dst) a ++ l) (drop_of_length-le dst {i = i} h)
      ∙ append-nil (replicate (length dst) a)

  -- the whole of src stands in place of dst
  pub copied-all : {src dst now : List A} {i : ℕ} → Written src dst now i → length dst ≡ length src → length dst ≤ i → now ≡ src
  unfolding over
  copied-all {src} {dst} {now} {i} inv e h =
      inv.list ∙ ap (λ (l : List A). l ++ drop i dst) (take_all i src (rw (← e) h))
      ∙ ap (λ (l : List A). src ++ l) (drop_of_length-le dst {i = i} h)
      ∙ append-nil src
