-- Flags written as words, 32 to a word, and read back. Assumes nothing.
use mathlib.Core.Path.{◌≡◌, refl, sym, ap, ◌∙◌}
use mathlib.Core.Bool.{Bool, true, false, cond, not, ◌&&◌, ◌||◌}
use mathlib.Core.List.{List, [], ◌∷◌}
use Prim.Native.Nat.{ℕ, zero, suc, ◌+◌, ◌*◌, ◌/◌, ◌%◌, ◌^◌, ◌≤◌, ◌<◌}
use native.Mathlib.Nat.{mod-lt, div-one, zero-div, zero-lt-suc, div-add-mod, lt_of_lt_of_le, two-pow-succ}
use native.Mathlib.Omega.{arith}
use borrow.Author.Tests.{eqb-true, eqb-false, ltb-true, ltb-false}
use lib.Dec.{eqb, ltb}
use lib.ListN.{length, take, drop, get_or, set, get_or-eq_default, length-take}
use lib.Pow.{pow_mono}
use lib.Seq.{get_or-set_same, get_or-set_other, get_or-take, get_or-drop}
use Rattle.rules.specs.Relay.{bit}
use Rattle.rules.specs.DescentPlaces.{word_of, pair_words, bit_at}
use Rattle.rules.proofs.Loops.{length-ones, get_d_ones, ones}
use Rattle.rules.proofs.Places.{bit_is}
use Rattle.bits.specs.Bits.{set_bit, clear_bit, Words}
use Rattle.bits.proofs.Laws.{bit_of, bit_half, bit_at-set, bit_at-clear, length-set_bit, length-clear_bit, words-set_bit, words-clear_bit, words_told}

-- ---- one word

bit-lt : (b : Bool) → bit b < 2
bit-lt true = omega arith
bit-lt false = omega arith

pub word-bit : (bs : List Bool) (k : ℕ) → bit_of (word_of bs) k ≡ get_or bs k false
unfolding word_of
word-bit [] k = ap (λ (x : ℕ). eqb (x % 2) 1) (zero-div (2 ^ k))
word-bit (b ∷ bs) zero =
    let l = bit-lt b in
    let e : (bit b + 2 * word_of bs) % 2 ≡ bit b = omega arith in
    ap (λ (x : ℕ). eqb (x % 2) 1) (div-one (bit b + 2 * word_of bs)) ∙ ap (λ (x : ℕ). eqb x 1) e ∙ bit_is b
word-bit (b ∷ bs) (suc k) =
    let l = bit-lt b in
    let e : (bit b + 2 * word_of bs) / 2 ≡ word_of bs = omega arith in
    bit_half (bit b + 2 * word_of bs) k ∙ ap (λ (x : ℕ). bit_of x k) e ∙ word-bit bs k

pub word_lt : (bs : List Bool) → word_of bs < 2 ^ length bs
unfolding word_of
word_lt [] = omega arith
word_lt (b ∷ bs) = let l = bit-lt b in let h = word_lt bs in let e = two-pow-succ (length bs) in omega arith

-- ---- all words

pub length_pairs : (c : ℕ) (flags : List Bool) → length (pair_words c flags) ≡ c
unfolding pair_words
length_pairs c flags = length-ones (λ (w : ℕ). word_of (take 32 (drop (32 * w) flags))) c

few : (w : ℕ) (flags : List Bool) → length (take 32 (drop (32 * w) flags)) ≤ 32
few w flags = let e = length-take 32 (drop (32 * w) flags) in omega arith

pub pairs-words : (c : ℕ) (flags : List Bool) → Words (pair_words c flags)
unfolding pair_words
pairs-words c flags q = go (ltb q c) refl
  where
    word : ℕ → ℕ
    word w = word_of (take 32 (drop (32 * w) flags))

    go : (b : Bool) → ltb q c ≡ b → get_or (ones word c) q 0 < 2 ^ 32
    go true e =
        let l = ltb-true q c e in
        let bound = word_lt (take 32 (drop (32 * q) flags)) in
        let most : 2 ^ length (take 32 (drop (32 * q) flags)) ≤ 2 ^ 32 = pow_mono (few q flags) in
        rw (get_d_ones word c q 0 l) (lt_of_lt_of_le bound most)
    go false e =
        let l = ltb-false q c e in
        let long = length-ones word c in
        rw (get_or-eq_default (ones word c) 0 {n = q} (omega arith)) (omega arith)

pub pairs-bit : (c : ℕ) (flags : List Bool) (p : ℕ) → p / 32 < c → bit_at (pair_words c flags) p ≡ get_or flags p false
unfolding pair_words bit_at
pairs-bit c flags p h =
    ap (λ (w : ℕ). bit_of w (p % 32)) (get_d_ones (λ (w : ℕ). word_of (take 32 (drop (32 * w) flags))) c (p / 32) 0 h)
    ∙ word-bit (take 32 (drop (32 * (p / 32)) flags)) (p % 32)
    ∙ get_or-take 32 (drop (32 * (p / 32)) flags) (p % 32) false (mod-lt p (zero-lt-suc 31))
    ∙ get_or-drop (32 * (p / 32)) flags (p % 32) false
    ∙ ap (λ (q : ℕ). get_or flags q false) (div-add-mod p 32)

-- ---- one flag changed

pub get_d_changed : {A : Type 0} (xs : List A) (p j : ℕ) (x z : A) → p < length xs → get_or (set xs p x) j z ≡ cond (eqb p j) x (get_or xs j z)
get_d_changed {A} xs p j x z h = go (eqb p j) refl
  where
    go : (b : Bool) → eqb p j ≡ b → get_or (set xs p x) j z ≡ cond b x (get_or xs j z)
    go true e = let same = eqb-true p j e in ap (λ (q : ℕ). get_or (set xs p x) q z) (sym same) ∙ get_or-set_same xs p x z h
    go false e = get_or-set_other xs p j x z (λ (r : j ≡ p). eqb-false p j e (sym r))

module _ (c p : ℕ) (flags : List Bool) (inside : p < length flags) (word : p / 32 < c) where
  long_enough : p / 32 < length (pair_words c flags)
  long_enough = let e = length_pairs c flags in omega arith

  pub pairs_set : set_bit p (pair_words c flags) ≡ pair_words c (set flags p true)
  pairs_set =
      words_told (set_bit p (pair_words c flags)) (pair_words c (set flags p true))
      (length-set_bit p (pair_words c flags) ∙ length_pairs c flags ∙ sym (length_pairs c (set flags p true)))
      (words-set_bit p (pair_words c flags) long_enough (pairs-words c flags))
      (pairs-words c (set flags p true))
      (λ j h. same j (let e = length-set_bit p (pair_words c flags) in let f = length_pairs c flags in omega arith))
    where
      or-cond : (a b : Bool) → (a || b) ≡ cond a true b
      or-cond true b = refl
      or-cond false b = refl

      same : (j : ℕ) → j / 32 < c → bit_at (set_bit p (pair_words c flags)) j ≡ bit_at (pair_words c (set flags p true)) j
      same j h =
          bit_at-set p (pair_words c flags) j long_enough ∙ ap (λ (b : Bool). eqb p j || b) (pairs-bit c flags j h)
          ∙ or-cond (eqb p j) (get_or flags j false)
          ∙ sym (pairs-bit c (set flags p true) j h ∙ get_d_changed flags p j true false inside)

  pub pairs-clear : clear_bit p (pair_words c flags) ≡ pair_words c (set flags p false)
  pairs-clear =
      words_told (clear_bit p (pair_words c flags)) (pair_words c (set flags p false))
      (length-clear_bit p (pair_words c flags) ∙ length_pairs c flags ∙ sym (length_pairs c (set flags p false)))
      (words-clear_bit p (pair_words c flags) long_enough (pairs-words c flags))
      (pairs-words c (set flags p false))
      (λ j h. same j (let e = length-clear_bit p (pair_words c flags) in let f = length_pairs c flags in omega arith))
    where
      and-cond : (a b : Bool) → (not a && b) ≡ cond a false b
      and-cond true b = refl
      and-cond false b = refl

      same : (j : ℕ) → j / 32 < c → bit_at (clear_bit p (pair_words c flags)) j ≡ bit_at (pair_words c (set flags p false)) j
      same j h =
          bit_at-clear p (pair_words c flags) j long_enough ∙ ap (λ (b : Bool). not (eqb p j) && b) (pairs-bit c flags j h)
          ∙ and-cond (eqb p j) (get_or flags j false)
          ∙ sym (pairs-bit c (set flags p false) j h ∙ get_d_changed flags p j false false inside)
