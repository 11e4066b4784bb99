-- The laws of one bit set or cleared. Assumes nothing.
use mathlib.Core.Path.{◌≡◌, refl, sym, ap, ap₂, ◌∙◌}
use mathlib.Core.Bool.{Bool, true, false, true≢false, false≢true, not, ◌&&◌, ◌||◌}
use mathlib.Core.List.{List}
use Prim.Native.Nat.{ℕ, zero, suc, ◌+◌, ◌-◌, ◌*◌, ◌/◌, ◌%◌, ◌^◌, ◌<◌}
use native.Mathlib.Nat.{mod-lt, one-mul, div-one, div-eq_of_lt, div-add-mod', zero-lt-suc, le_refl}
use native.Mathlib.Numerals.{add-one}
use native.Mathlib.Omega.{arith}
use borrow.Author.Tests.{eqb-true, eqb-false, eq-eqb, ne_eqb}
use lib.Arith.{lt-one, digits_div, digits_mod}
use lib.Bits.{bit_and, bit_or, bit_xor, or_shr, or_mod, xor_shr, xor_mod, or_lt, xor_lt, shifted_half, shifted_even}
use lib.Dec.{eqb, eqb-zero-suc, eqb-suc-zero, eqb-suc-suc}
use lib.ListN.{length, get_or, set, length-set}
use lib.Pow.{pow-lt, shl_exact, shr_lt, shr-shr}
use lib.Seq.{get_or-set_same, get_or-set_other, ext_get_or}
use Rattle.std.specs.Int.Bits.{or_add_and, xor_add_and}
use Rattle.std.proofs.lemmas.Nat.{and_comm, and-not, and_or_self}
use Rattle.rules.specs.DescentPlaces.{bit_at}
use Rattle.bits.specs.Bits.{with_bit, set_bit, without_bit, clear_bit, Words}

-- the code's 1 << (i % 32)
pub shifted_one : (i : ℕ) → 1 * 2 ^ (i % 32) % 2 ^ 32 ≡ 2 ^ (i % 32)
shifted_one i =
    let h : i % 32 < 32 = mod-lt i (zero-lt-suc 31) in
    shl_exact 1 (i % 32) 32 (le_refl 2) (omega arith) ∙ one-mul (2 ^ (i % 32))

-- the code's & !m takes away what | m and then ^ m does
pub and_not_is : (m w : ℕ) → m < 2 ^ 32 → w < 2 ^ 32 → bit_and w (2 ^ 32 - 1 - m) ≡ bit_xor (bit_or w m) m
and_not_is m w h l =
    omega (arith, and-not 32 m w h l, and_comm w (2 ^ 32 - 1 - m), and_comm w m, or_add_and w m, xor_add_and (bit_or w m) m, and_or_self m w)

-- ---- one word

-- bit k of a word
abbrev pub bit_of : ℕ → ℕ → Bool
bit_of w k = eqb (w / 2 ^ k % 2) 1

two_pos : 0 < 2
two_pos = zero-lt-suc 1

-- a bit behind the lowest is one of the word halved
pub bit_half : (w k : ℕ) → bit_of w (suc k) ≡ bit_of (w / 2) k
bit_half w k = ap (λ (x : ℕ). eqb (x % 2) 1) (ap (λ (j : ℕ). w / 2 ^ j) (omega arith) ∙ sym (shr-shr w 1 k))

bit_power : (m k : ℕ) → bit_of (2 ^ m) k ≡ eqb m k
bit_power zero zero = refl
bit_power zero (suc k) = ap (λ (x : ℕ). eqb (x % 2) 1) (div-eq_of_lt (pow-lt {i = 0} {j = suc k} (omega arith))) ∙ sym (eqb-zero-suc k)
bit_power (suc m) zero =
    ap (λ (x : ℕ). eqb (x % 2) 1) (div-one (2 ^ suc m) ∙ sym (one-mul (2 ^ suc m))) ∙ ap (λ (x : ℕ). eqb x 1) (shifted_even 1 m) ∙ sym (eqb-suc-zero m)
bit_power (suc m) (suc k) =
    bit_half (2 ^ suc m) k
    ∙ ap (λ (x : ℕ). bit_of x k) (ap (λ (x : ℕ). x / 2) (sym (one-mul (2 ^ suc m))) ∙ shifted_half 1 m ∙ one-mul (2 ^ m))
    ∙ bit_power m k ∙ sym (eqb-suc-suc m k)

-- what holds of 0 and of 1 holds of what is below 2
digits : (P : ℕ → ℕ → Type 0) → P 0 0 → P 0 1 → P 1 0 → P 1 1 → (x y : ℕ) → x < 2 → y < 2 → P x y
digits P a b c d zero zero h l = a
digits P a b c d zero (suc zero) h l = b
digits P a b c d (suc zero) zero h l = c
digits P a b c d (suc zero) (suc zero) h l = d
digits P a b c d (suc (suc x)) y h l = absurd (omega arith)
digits P a b c d zero (suc (suc y)) h l = absurd (omega arith)
digits P a b c d (suc zero) (suc (suc y)) h l = absurd (omega arith)

-- a digit of either operation is the operation on the digits
or_digit : (a b k : ℕ) → bit_or a b / 2 ^ k % 2 ≡ bit_or (a / 2 ^ k % 2) (b / 2 ^ k % 2)
or_digit a b k = ap (λ (x : ℕ). x % 2) (or_shr a b k) ∙ or_mod (a / 2 ^ k) (b / 2 ^ k) 1

xor_digit : (a b k : ℕ) → bit_xor a b / 2 ^ k % 2 ≡ bit_xor (a / 2 ^ k % 2) (b / 2 ^ k % 2)
xor_digit a b k = ap (λ (x : ℕ). x % 2) (xor_shr a b k) ∙ xor_mod (a / 2 ^ k) (b / 2 ^ k) 1

bit_with : (m w k : ℕ) → bit_of (with_bit m w) k ≡ (eqb m k || bit_of w k)
unfolding with_bit
bit_with m w k =
    ap (λ (x : ℕ). eqb x 1) (or_digit w (2 ^ m) k)
    ∙ digits (λ x y. eqb (bit_or x y) 1 ≡ (eqb y 1 || eqb x 1)) refl refl refl refl (w / 2 ^ k % 2) (2 ^ m / 2 ^ k % 2) (mod-lt (w / 2 ^ k) two_pos) (mod-lt (2 ^ m / 2 ^ k) two_pos)
    ∙ ap (λ (b : Bool). b || bit_of w k) (bit_power m k)

bit_without : (m w k : ℕ) → bit_of (without_bit m w) k ≡ (not (eqb m k) && bit_of w k)
unfolding with_bit without_bit
bit_without m w k =
    ap (λ (x : ℕ). eqb x 1) (xor_digit (bit_or w (2 ^ m)) (2 ^ m) k ∙ ap (λ (x : ℕ). bit_xor x (2 ^ m / 2 ^ k % 2)) (or_digit w (2 ^ m) k))
    ∙ digits (λ x y. eqb (bit_xor (bit_or x y) y) 1 ≡ (not (eqb y 1) && eqb x 1)) refl refl refl refl (w / 2 ^ k % 2) (2 ^ m / 2 ^ k % 2) (mod-lt (w / 2 ^ k) two_pos) (mod-lt (2 ^ m / 2 ^ k) two_pos)
    ∙ ap (λ (b : Bool). not b && bit_of w k) (bit_power m k)

with_lt : (m w : ℕ) → m < 32 → w < 2 ^ 32 → with_bit m w < 2 ^ 32
unfolding with_bit
with_lt m w h l = or_lt 32 w (2 ^ m) l (pow-lt h)

without_lt : (m w : ℕ) → m < 32 → w < 2 ^ 32 → without_bit m w < 2 ^ 32
unfolding without_bit
without_lt m w h l = xor_lt 32 (with_bit m w) (2 ^ m) (with_lt m w h l) (pow-lt h)

-- ---- a list of words

-- two places in one word are the same where they are the same in it
same_place : (p j : ℕ) → p / 32 ≡ j / 32 → eqb (p % 32) (j % 32) ≡ eqb p j
same_place p j e = go (eqb p j) refl
  where
    go : (b : Bool) → eqb p j ≡ b → eqb (p % 32) (j % 32) ≡ b
    go true h = let same = eqb-true p j h in eq-eqb (p % 32) (j % 32) (omega arith)
    go false h = ne_eqb (p % 32) (j % 32) (λ (r : p % 32 ≡ j % 32). eqb-false p j h (omega arith))

-- one word changed, by an f that changes its bit m as g says
module _ (f : ℕ → ℕ → ℕ) (g : Bool → Bool → Bool) (idle : (b : Bool) → g false b ≡ b) (bits : (m w k : ℕ) → bit_of (f m w) k ≡ g (eqb m k) (bit_of w k)) where
  changed : (p : ℕ) (us : List ℕ) (j : ℕ) → p / 32 < length us → bit_at (set us (p / 32) (f (p % 32) (get_or us (p / 32) 0))) j ≡ g (eqb p j) (bit_at us j)
  unfolding bit_at
  changed p us j h = go (eqb (j / 32) (p / 32)) refl
    where
      new : ℕ
      new = f (p % 32) (get_or us (p / 32) 0)

      go : (b : Bool) → eqb (j / 32) (p / 32) ≡ b → bit_of (get_or (set us (p / 32) new) (j / 32) 0) (j % 32) ≡ g (eqb p j) (bit_of (get_or us (j / 32) 0) (j % 32))
      go true e =
          let same = eqb-true (j / 32) (p / 32) e in
          ap (λ (q : ℕ). bit_of (get_or (set us (p / 32) new) q 0) (j % 32)) same
          ∙ ap (λ (w : ℕ). bit_of w (j % 32)) (get_or-set_same us (p / 32) new 0 h)
          ∙ bits (p % 32) (get_or us (p / 32) 0) (j % 32)
          ∙ ap₂ (λ (b : Bool) (q : ℕ). g b (bit_of (get_or us q 0) (j % 32))) (same_place p j (sym same)) (sym same)
      go false e =
          ap (λ (w : ℕ). bit_of w (j % 32)) (get_or-set_other us (p / 32) (j / 32) new 0 (eqb-false (j / 32) (p / 32) e))
          ∙ sym (ap (λ (b : Bool). g b (bit_of (get_or us (j / 32) 0) (j % 32))) (ne_eqb p j (λ (r : p ≡ j). eqb-false (j / 32) (p / 32) e (ap (λ (x : ℕ). x / 32) (sym r)))) ∙ idle _)

pub bit_at-set : (p : ℕ) (us : List ℕ) (j : ℕ) → p / 32 < length us → bit_at (set_bit p us) j ≡ (eqb p j || bit_at us j)
unfolding set_bit
bit_at-set = changed with_bit (λ a b. a || b) (λ b. refl) bit_with

pub bit_at-clear : (p : ℕ) (us : List ℕ) (j : ℕ) → p / 32 < length us → bit_at (clear_bit p us) j ≡ (not (eqb p j) && bit_at us j)
unfolding clear_bit
bit_at-clear = changed without_bit (λ a b. not a && b) (λ b. refl) bit_without

pub length-set_bit : (p : ℕ) (us : List ℕ) → length (set_bit p us) ≡ length us
unfolding set_bit
length-set_bit p us = length-set us (p / 32) (with_bit (p % 32) (get_or us (p / 32) 0))

pub length-clear_bit : (p : ℕ) (us : List ℕ) → length (clear_bit p us) ≡ length us
unfolding clear_bit
length-clear_bit p us = length-set us (p / 32) (without_bit (p % 32) (get_or us (p / 32) 0))

words_changed : (us : List ℕ) (q w : ℕ) → q < length us → Words us → w < 2 ^ 32 → Words (set us q w)
words_changed us q w h all l j = go (eqb j q) refl
  where
    go : (b : Bool) → eqb j q ≡ b → get_or (set us q w) j 0 < 2 ^ 32
    go true e = rw (eqb-true j q e, get_or-set_same us q w 0 h) l
    go false e = rw (get_or-set_other us q j w 0 (eqb-false j q e)) (all j)

pub words-set_bit : (p : ℕ) (us : List ℕ) → p / 32 < length us → Words us → Words (set_bit p us)
unfolding set_bit
words-set_bit p us h all =
    words_changed us (p / 32) (with_bit (p % 32) (get_or us (p / 32) 0)) h all (with_lt (p % 32) (get_or us (p / 32) 0) (mod-lt p (zero-lt-suc 31)) (all (p / 32)))

pub words-clear_bit : (p : ℕ) (us : List ℕ) → p / 32 < length us → Words us → Words (clear_bit p us)
unfolding clear_bit
words-clear_bit p us h all =
    words_changed us (p / 32) (without_bit (p % 32) (get_or us (p / 32) 0)) h all (without_lt (p % 32) (get_or us (p / 32) 0) (mod-lt p (zero-lt-suc 31)) (all (p / 32)))

-- ---- words are told by their bits

-- the lowest digits are the same where the lowest bits are
lowest : (v w : ℕ) → bit_of v 0 ≡ bit_of w 0 → v % 2 ≡ w % 2
lowest v w e =
    digits (λ x y. eqb x 1 ≡ eqb y 1 → x ≡ y) (λ r. refl) (λ r. absurd (false≢true r)) (λ r. absurd (true≢false r)) (λ r. refl) (v % 2) (w % 2) (mod-lt v two_pos) (mod-lt w two_pos)
    (ap (λ (x : ℕ). eqb (x % 2) 1) (sym (div-one v)) ∙ e ∙ ap (λ (x : ℕ). eqb (x % 2) 1) (div-one w))

word_told : (n v w : ℕ) → v < 2 ^ n → w < 2 ^ n → ((k : ℕ) → k < n → bit_of v k ≡ bit_of w k) → v ≡ w
word_told zero v w h l same = lt-one h ∙ sym (lt-one l)
word_told (suc n) v w h l same =
    sym (div-add-mod' v 2)
    ∙ ap₂ (λ (x y : ℕ). x * 2 + y)
    (word_told n (v / 2) (w / 2) (shr_lt n 1 (rw (add-one n) h)) (shr_lt n 1 (rw (add-one n) l)) (λ k b. sym (bit_half v k) ∙ same (suc k) (omega arith) ∙ bit_half w k))
    (lowest v w (same 0 (omega arith)))
    ∙ div-add-mod' w 2

pub bit_at-place : (us : List ℕ) (q k : ℕ) → k < 32 → bit_at us (q * 32 + k) ≡ bit_of (get_or us q 0) k
unfolding bit_at
bit_at-place us q k h = ap₂ (λ (a b : ℕ). bit_of (get_or us a 0) b) (digits_div q h) (digits_mod q h)

pub words_told : (us vs : List ℕ) → length us ≡ length vs → Words us → Words vs → ((p : ℕ) → p / 32 < length us → bit_at us p ≡ bit_at vs p) → us ≡ vs
words_told us vs e hu hv same =
    ext_get_or 0 us vs e
    (λ q h. word_told 32 (get_or us q 0) (get_or vs q 0) (hu q) (hv q)
    (λ k b. sym (bit_at-place us q k b) ∙ same (q * 32 + k) (rw (digits_div q {m = 32} {r = k} b) h) ∙ bit_at-place vs q k b))
