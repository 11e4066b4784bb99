-- One flag of the words from a place on changed. Assumes nothing.
use mathlib.Core.Path.{◌≡◌, refl, ap, ◌∙◌}
use mathlib.Core.Bool.{Bool, true, false}
use mathlib.Core.List.{List, [], ◌++◌, append-nil}
use Prim.Native.Nat.{ℕ, suc, ◌+◌, ◌-◌, ◌*◌, ◌/◌, ◌≤◌, ◌<◌}
use native.Mathlib.Nat.{suc-mul, mul-le-mul_right, mul-le-mul}
use native.Mathlib.Omega.{arith}
use lib.ListN.{length, take, drop, get_or, set, length-set, length-append, length-drop, drop_of_length-le}
use lib.Seq.{length-take-le, take_all, take_at, drop_at}
use borrow.Rule.Slice.PartMut.{put_mid}
use Rattle.rules.specs.Descent.{is_visited, visit, unvisit}
use Rattle.rules.specs.DescentPlaces.{pair_words, bit_at}
use Rattle.bits.specs.Bits.{set_bit, clear_bit}
use Rattle.bits.proofs.Laws.{length-set_bit, length-clear_bit}
use Rattle.visits.specs.Marks.{marks, Holds, Marked, PairAt}
use Rattle.visits.proofs.Flags.{pairs-bit, pairs_set, pairs-clear}

-- ---- the place of a pair

pub record Square (n i j : ℕ) : Type 0 where
  pub product : i * n + j < n * n
  pub most : i * n + j < 1048576

pub square : (n i j : ℕ) → n ≤ 1024 → i < n → j < n → Square n i j
square n i j few h l =
    let step = suc-mul i n in
    let within : suc i * n ≤ n * n = mul-le-mul_right n h in
    let whole : n * n ≤ 1024 * 1024 = mul-le-mul few few in
    record { product = omega arith; most = omega arith }

-- the word of a bit below a count
pub word_of : (p count : ℕ) → p < count → p / 32 < (count + 31) / 32
word_of p count h = omega arith

pub pair_place : (n i j : ℕ) → n ≤ 1024 → i < n → j < n → PairAt n i j (i * n + j)
pair_place n i j few h l =
    let s = square n i j few h l in
    record { place = refl; inside = s.product; word = word_of (i * n + j) (n * n) s.product }

-- ---- the words from base on are lent, and come back as ys

module _ (base n : ℕ) (us : List ℕ) (long : length us ≡ base + marks n) where
  tail_long : length (drop base us) ≡ marks n
  tail_long = length-drop base us ∙ (let e = long in omega arith)

  -- the part as the code cuts it out
  pub tail : take (length us - base) (drop base us) ≡ drop base us
  tail = take_all (length us - base) (drop base us) (let e = length-drop base us in omega arith)

  pub changed : (f : List Bool → List Bool) (ys : List ℕ) → length ys ≡ marks n
      → ((flags : List Bool) → Holds base n flags us → ys ≡ pair_words (marks n) (f flags)) → ((flags : List Bool) → length (f flags) ≡ length flags)
      → Marked base n f us (put_mid base (length us - base) us ys)
  changed f ys ys_long same kept =
      let front_long : length (take base us) ≡ base = length-take-le base us (let e = long in omega arith) in
      let rest_long = length-drop (length us - base) (drop base us) in
      let t = tail_long in
      let none : drop (length us - base) (drop base us) ≡ [] = drop_of_length-le (drop base us) {i = length us - base} (let e = long in omega arith) in
      let whole : put_mid base (length us - base) us ys ≡ take base us ++ ys = rw none (ap (λ (l : List ℕ). take base us ++ l) (append-nil ys)) in
      record {
        marked = λ flags h. record { words = rw whole (drop_at (take base us) ys base front_long ∙ same flags h); long = kept flags ∙ h.long };
        front = rw whole (take_at (take base us) ys base front_long);
        long = rw whole (length-append (take base us) ys ∙ (let e = long in omega arith));
      }

  module _ {i j p : ℕ} (at : PairAt n i j p) where
    inside : (flags : List Bool) → length flags ≡ n * n → p < length flags
    inside flags e = let l = at.inside in omega arith

    pub marked-set : {ys : List ℕ} → ys ≡ set_bit p (take (length us - base) (drop base us)) → Marked base n (visit n i j) us (put_mid base (length us - base) us ys)
    unfolding visit
    marked-set {ys} e =
        changed (visit n i j) ys (ap length e ∙ length-set_bit p (take (length us - base) (drop base us)) ∙ ap length tail ∙ tail_long)
        (λ flags h. e ∙ ap (set_bit p) (tail ∙ h.words) ∙ pairs_set (marks n) p flags (inside flags h.long) at.word ∙ ap (λ (q : ℕ). pair_words (marks n) (set flags q true)) at.place)
        (λ flags. length-set flags (i * n + j) true)

    pub marked-clear : {ys : List ℕ} → ys ≡ clear_bit p (take (length us - base) (drop base us)) → Marked base n (unvisit n i j) us (put_mid base (length us - base) us ys)
    unfolding unvisit
    marked-clear {ys} e =
        changed (unvisit n i j) ys (ap length e ∙ length-clear_bit p (take (length us - base) (drop base us)) ∙ ap length tail ∙ tail_long)
        (λ flags h. e ∙ ap (clear_bit p) (tail ∙ h.words) ∙ pairs-clear (marks n) p flags (inside flags h.long) at.word ∙ ap (λ (q : ℕ). pair_words (marks n) (set flags q false)) at.place)
        (λ flags. length-set flags (i * n + j) false)

    pub read-bit : {r : Bool} → r ≡ bit_at (take (length us - base) (drop base us)) p → (flags : List Bool) → Holds base n flags us → r ≡ is_visited n i j flags
    unfolding is_visited
    read-bit e flags h =
        e ∙ ap (λ (l : List ℕ). bit_at l p) (tail ∙ h.words) ∙ pairs-bit (marks n) flags p at.word ∙ ap (λ (q : ℕ). get_or flags q false) at.place
