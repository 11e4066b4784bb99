-- The bits behind those of the pairs: when they are zero, the words are those of the flags that they tell. Assumes nothing.
use mathlib.Core.Path.{◌≡◌, refl, sym, ap, ◌∙◌}
use mathlib.Core.Bool.{Bool, true, false, not, true≢false}
use mathlib.Core.List.{List, [], ◌∷◌}
use Prim.Native.Nat.{ℕ, ◌+◌, ◌-◌, ◌*◌, ◌/◌, ◌≤◌, ◌<◌}
use native.Mathlib.Nat.{mul-le-mul}
use native.Mathlib.Omega.{arith}
use borrow.Author.Tests.{ltb-true, ltb-false}
use lib.Dec.{ltb}
use lib.ListN.{length, get_or-eq_default}
use Rattle.rules.specs.Loops.{each}
use Rattle.rules.specs.Places.{same_words}
use Rattle.rules.specs.DescentPlaces.{bit_at, pair_words}
use Rattle.rules.proofs.Tests.{same_truth}
use Rattle.rules.proofs.Loops.{length-ones, get_d_ones}
use Rattle.bits.specs.Bits.{Words}
use Rattle.bits.proofs.Laws.{words_told}
use Rattle.encoded.proofs.Same.{same-words, words_same}
use Rattle.zeros.specs.Zeros.{all_below}
use Rattle.zeros.proofs.Laws.{all_none, all_turn, all-at, all_of, all-not}
use Rattle.visits.specs.Marks.{marks}
use Rattle.visits.proofs.Flags.{length_pairs, pairs-words, pairs-bit}

pub record Square (n : ℕ) : Type 0 where
  pub pairs : n * n ≤ 1048576
  pub words : marks n ≤ 32768
  pub room : n * n ≤ 32 * marks n

pub square : (n : ℕ) → n ≤ 1024 → Square n
square n few =
    let p : n * n ≤ 1024 * 1024 = mul-le-mul few few in
    record { pairs = p; words = omega arith; room = omega arith }

-- a bit that is there
pub bit_in : (n c p : ℕ) → p < 32 * c → p / 32 < c
bit_in n c p h = omega arith

module _ (n : ℕ) (us : List ℕ) (long : length us ≡ marks n) (words : Words us) (few : n ≤ 1024) where
  abbrev told : List Bool
  told = each (λ (p : ℕ). bit_at us p ∷ []) (n * n)

  abbrev clear : ℕ → Bool
  clear j = not (bit_at us (n * n + j))

  abbrev spare : ℕ
  spare = 32 * marks n - n * n

  off_of : (b : Bool) → not b ≡ true → b ≡ false
  off_of true e = absurd (true≢false (sym e))
  off_of false e = refl

  clear_of : us ≡ pair_words (marks n) told → all_below clear spare ≡ true
  clear_of e =
      all_of clear spare
      (λ (j : ℕ) (h : j < spare).
      let long' = length-ones (bit_at us) (n * n) in
      let inside : (n * n + j) / 32 < marks n = bit_in n (marks n) (n * n + j) (omega arith) in
      ap not (ap (λ (xs : List ℕ). bit_at xs (n * n + j)) e ∙ pairs-bit (marks n) told (n * n + j) inside ∙ get_or-eq_default told false {n = n * n + j} (omega arith)))

  bit-same : all_below clear spare ≡ true → (p : ℕ) → p / 32 < length us → bit_at us p ≡ bit_at (pair_words (marks n) told) p
  bit-same e p h = go (ltb p (n * n)) refl
    where
      go : (b : Bool) → ltb p (n * n) ≡ b → bit_at us p ≡ bit_at (pair_words (marks n) told) p
      go true f =
          let l = ltb-true p (n * n) f in
          sym (pairs-bit (marks n) told p (omega arith) ∙ get_d_ones (bit_at us) (n * n) p false l)
      go false f =
          let l = ltb-false p (n * n) f in
          let long' = length-ones (bit_at us) (n * n) in
          let back : n * n + (p - n * n) ≡ p = omega arith in
          let off = off_of (bit_at us (n * n + (p - n * n))) (all-at clear spare (p - n * n) e (omega arith)) in
          ap (bit_at us) (sym back) ∙ off ∙ sym (pairs-bit (marks n) told p (omega arith) ∙ get_or-eq_default told false {n = p} (omega arith))

  pub bits_are : same_words us (pair_words (marks n) told) ≡ all_below clear spare
  bits_are =
      same_truth (same_words us (pair_words (marks n) told)) (all_below clear spare) (λ e. clear_of (words_same us (pair_words (marks n) told) e))
      (λ e. same-words us (pair_words (marks n) told)
      (words_told us (pair_words (marks n) told) (long ∙ sym (length_pairs (marks n) told)) words (pairs-words (marks n) told) (bit-same e)))

-- ---- from the front

pub record Clear (n used spare : ℕ) (us : List ℕ) (j : ℕ) : Type 0 where
  pub within : j ≤ spare
  pub all : spare ≡ 32 * marks n - n * n
  pub from : used ≡ n * n
  pub so_far : all_below (λ (i : ℕ). not (bit_at us (n * n + i))) j ≡ true

pub clear_none : {n used spare : ℕ} {us : List ℕ} → spare ≡ 32 * marks n - n * n → used ≡ n * n → Clear n used spare us 0
clear_none {n} {used} {spare} {us} e f = record { within = omega arith; all = e; from = f; so_far = all_none (λ (i : ℕ). not (bit_at us (n * n + i))) }

module _ {n used spare : ℕ} {us : List ℕ} {j : ℕ} (inv : Clear n used spare us j) where
  pub clear_turn : {b : Bool} → j < spare → b ≡ bit_at us (used + j) → b ≡ false → Clear n used spare us (j + 1)
  clear_turn h e f =
      record {
        within = omega arith;
        all = inv.all;
        from = inv.from;
        so_far = all_turn (λ (i : ℕ). not (bit_at us (n * n + i))) j inv.so_far (ap (λ (u : ℕ). not (bit_at us (u + j))) (sym inv.from) ∙ ap not (sym e ∙ f));
      }

  pub clear-not : {b : Bool} → j < spare → b ≡ bit_at us (used + j) → b ≡ true → false ≡ all_below (λ (i : ℕ). not (bit_at us (n * n + i))) (32 * marks n - n * n)
  clear-not h e f =
      let all = inv.all in
      sym (all-not (λ (i : ℕ). not (bit_at us (n * n + i))) (32 * marks n - n * n) j (omega arith) (ap (λ (u : ℕ). not (bit_at us (u + j))) (sym inv.from) ∙ ap not (sym e ∙ f)))
