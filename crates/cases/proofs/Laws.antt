-- One turn and the end of each loop over a text. Assumes nothing.
use Rattle.std.proofs.Common.{◌≡◌, ℕ, zero, suc, ◌+◌, ◌-◌, ◌*◌, ◌^◌, ◌<◌, ◌≤◌, true, List, [], ◌∷◌, ◌++◌, length, map, get_or, take, drop, set, sym, refl, ap, ◌∙◌, append_assoc, append-nil, add-one, arith, length-set, drop_of_length-le, take_all, drop-cons, take-suc-set, le-leb, Option, Some, None, is_some}
use borrow.Author.Tests.{lt-leb}
use Rattle.cases.specs.declared.Mode.{Mode}
use Rattle.cases.specs.declared.Cursor.{Cursor}
use Rattle.cases.specs.declared.Read.{Read}
use Rattle.cases.specs.Text.{after, skipped, digit_of, digits_of, limit, word_at, area_of, words_at, behind, Gives}

pub none : {A : Type 0} (o : Option A) → ((x : A) → o ≡ Some x → ⊥) → o ≡ None
none None h = refl
none (Some x) h = absurd (h x refl)

module _ (text : List ℕ) (at : ℕ) where
  pub skipped-end : (mode : Mode) → length text ≤ at → skipped mode (drop at text) at ≡ at
  unfolding skipped
  skipped-end mode h = rw (drop_of_length-le text h)

  pub skipped_stop : (mode : Mode) → at < length text → after mode (get_or text at 0) ≡ None → skipped mode (drop at text) at ≡ at
  unfolding skipped
  skipped_stop mode h stop = rw (drop-cons text at 0 h, skipped, stop)

  pub skipped_turn :
      (mode next : Mode) → at < length text → after mode (get_or text at 0) ≡ Some next
      → skipped next (drop (at + 1) text) (at + 1) ≡ skipped mode (drop at text) at
  unfolding skipped
  skipped_turn mode next h e = rw (drop-cons text at 0 h, skipped, e, add-one)

  pub digits_end : (value : ℕ) → length text ≤ at → digits_of value (drop at text) at ≡ record { value = value; at = at }
  unfolding digits_of
  digits_end value h = rw (drop_of_length-le text h)

  pub digits_stop : (value : ℕ) → at < length text → digit_of (get_or text at 0) ≡ None → digits_of value (drop at text) at ≡ record { value = value; at = at }
  unfolding digits_of
  digits_stop value h stop = rw (drop-cons text at 0 h, digits_of, stop)

  pub digits_full :
      (value digit : ℕ) → at < length text → digit_of (get_or text at 0) ≡ Some digit → limit ≤ value → digits_of value (drop at text) at ≡ record { value = value; at = at }
  unfolding digits_of
  digits_full value digit h e full = rw (drop-cons text at 0 h, digits_of, e, le-leb limit value full)

  pub digits_turn :
      (value digit : ℕ) → at < length text → digit_of (get_or text at 0) ≡ Some digit → value < limit
      → digits_of (value * 10 + digit) (drop (at + 1) text) (at + 1) ≡ digits_of value (drop at text) at
  unfolding digits_of
  digits_turn value digit h e small = rw (drop-cons text at 0 h, digits_of, e, lt-leb limit value small, add-one)

pub area-is : (a b : ℕ) → a ≤ 65536 → b ≤ 65536 → area_of a b ≡ a * b
unfolding area_of
area-is a b h k = rw (le-leb a 65536 h, le-leb b 65536 k)

-- The next of the numbers that are left
pub words_turn :
    (n i : ℕ) (text : List ℕ) (c : Cursor) (w : Read ℕ) → w ≡ word_at text c → i < n
    → words_at (n - i) text c ≡ w.value ∷ words_at (n - (i + 1)) text w.cursor
unfolding words_at
words_turn n i text c w e h =
    let less : n - i ≡ suc (n - (i + 1)) = omega arith in
    ap (λ (k : ℕ). words_at k text c) less ∙ ap (λ (v : Read ℕ). v.value ∷ words_at (n - (i + 1)) text v.cursor) (sym e)

-- Behind a fault nothing is read.
pub behind_fault : (n : ℕ) (text : List ℕ) (c : Cursor) → is_some c.fault ≡ true → behind n text c ≡ c
unfolding behind word_at
behind_fault zero text c h = refl
behind_fault (suc n) text c h = rw h (behind_fault n text c h)

pub behind_turn :
    (n i : ℕ) (text : List ℕ) (c : Cursor) (w : Read ℕ) → w ≡ word_at text c → i < n → behind (n - (i + 1)) text w.cursor ≡ behind (n - i) text c
unfolding behind
behind_turn n i text c w e h =
    let less : n - i ≡ suc (n - (i + 1)) = omega arith in
    sym (ap (λ (k : ℕ). behind k text c) less ∙ ap (λ (v : Read ℕ). behind (n - (i + 1)) text v.cursor) (sym e))

pub behind_none : (n : ℕ) (text : List ℕ) (c : Cursor) → n ≤ 0 → c ≡ behind n text c
unfolding behind
behind_none n text c h =
    let none : 0 ≡ n = omega arith in
    ap (λ (k : ℕ). behind k text c) none

-- A slice filled from the front with what is made of the next numbers: the first `i` places are written, and what is left says what the whole says.
module _ {A : Type 0} (Post : ℕ → A → Type 0) where
  pub record Filling (text : List ℕ) (out₀ : List A) (c₀ : Cursor) (out : List A) (i : ℕ) (c : Cursor) : Type 0 where
    pub long : length out ≡ length out₀
    pub within : i ≤ length out
    pub list : (made : ℕ → A) → Gives Post made → take i out ++ map made (words_at (length out - i) text c) ≡ map made (words_at (length out₀) text c₀)
    pub place : behind (length out - i) text c ≡ behind (length out₀) text c₀

  module _ (text : List ℕ) (out₀ : List A) (c₀ : Cursor) where
    pub filling_none : Filling text out₀ c₀ out₀ 0 c₀
    filling_none =
        let e : length out₀ - 0 ≡ length out₀ = omega arith in
        record {
          long = refl;
          within = omega arith;
          list = λ made h. ap (λ (n : ℕ). map made (words_at n text c₀)) e;
          place = ap (λ (n : ℕ). behind n text c₀) e;
        }

    module _ (out : List A) (i : ℕ) (c : Cursor) (inv : Filling text out₀ c₀ out i c) where
      pub filling_turn :
          (w : Read ℕ) → w ≡ word_at text c → w.value < 2 ^ 32 → (x : A) → Post w.value x → i < length out → Filling text out₀ c₀ (set out i x) (i + 1) w.cursor
      filling_turn w e fits x makes h =
          let long = length-set out i x in
          let front : take (i + 1) (set out i x) ≡ take i out ++ (x ∷ []) = rw (add-one, take-suc-set out i x) in
          record {
            long = long ∙ inv.long;
            within = omega arith;
            list = λ made of.
                let here : map made (words_at (length out - i) text c) ≡ made w.value ∷ map made (words_at (length out - (i + 1)) text w.cursor) = ap (map made) (words_turn (length out) i text c w e h) in
                rw (long, front, append_assoc, of w.value x fits makes) (ap (λ (l : List A). take i out ++ l) (sym here) ∙ inv.list made of);
            place = rw long (behind_turn (length out) i text c w e h ∙ inv.place);
          }

      pub filling_end :
          length out ≤ i → ((made : ℕ → A) → Gives Post made → out ≡ map made (words_at (length out₀) text c₀)) × (c ≡ behind (length out₀) text c₀)
      unfolding behind words_at
      filling_end h =
          let none : length out - i ≡ 0 = omega arith in
          let place : c ≡ behind (length out₀) text c₀ = rw none at inv.place in (
            λ made of.
                let list : take i out ++ [] ≡ map made (words_at (length out₀) text c₀) = rw none at inv.list made of in
                sym (take_all i out h) ∙ sym (append-nil (take i out)) ∙ list,
            place,
          )
