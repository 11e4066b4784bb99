-- What a begin writes, list by list. Assumes nothing.
use mathlib.Core.Path.{◌≡◌, refl, sym, ap, ◌∙◌}
use mathlib.Core.List.{List, [], ◌∷◌, ◌++◌, append_assoc, append-nil}
use Prim.Native.Nat.{ℕ, suc, ◌+◌, ◌-◌, ◌*◌, ◌≤◌, ◌<◌, zero-le}
use native.Mathlib.Numerals.{add-one}
use native.Mathlib.Omega.{arith}
use lib.ListN.{length, take, drop, set, replicate, length-append}
use lib.Seq.{set_at, take_at, take_all, length-take-le}
use borrow.Rule.Slice.PartMut.{mid_of, put_mid}
use Rattle.rules.specs.Loops.{each}
use Rattle.rules.specs.Places.{padded}
use Rattle.rules.specs.Descent.{drawn, draws_from, begin_context}
use Rattle.rules.specs.DescentPlaces.{member_words, context_words}
use Rattle.rules.proofs.Loops.{length-ones}
use Rattle.rules.proofs.Places.{length-member_words}
use Rattle.buffers.proofs.Places.{length-area, put-length}
use Rattle.members.proofs.Laws.{words_append}

-- ---- a list of draws

module _ (draws : List ℕ) (n at : ℕ) where
  length-draws : (s : ℕ) → length (draws_from draws n at s) ≡ s
  unfolding draws_from
  length-draws s = length-ones (λ (j : ℕ). drawn draws n (at + j)) s

  draws-more : (j : ℕ) → draws_from draws n at j ++ (drawn draws n (at + j) ∷ []) ≡ draws_from draws n at (suc j)
  unfolding draws_from each
  draws-more j = refl

pub record Drawing (draws : List ℕ) (n s at : ℕ) (us : List ℕ) (j : ℕ) : Type 0 where
  pub within : j ≤ s
  pub list : us ≡ s ∷ (draws_from draws n at j ++ replicate (64 - j) 0)

pub drawing_none : {draws : List ℕ} {n s at : ℕ} {us₁ : List ℕ} {m : ℕ} → m ≡ 65 → us₁ ≡ replicate m 0 → Drawing draws n s at (set us₁ 0 s) 0
unfolding draws_from each
drawing_none {draws} {n} {s} {at} {us₁} {m} e f = record { within = zero-le; list = rw (f, e) }

module _ {draws : List ℕ} {n s at : ℕ} {us : List ℕ} {j : ℕ} (inv : Drawing draws n s at us j) (few : s ≤ 64) where
  pub drawing_turn : {v : ℕ} → j < s → v ≡ drawn draws n (at + j) → Drawing draws n s at (set us (j + 1) v) (j + 1)
  drawing_turn {v} h e =
      let D = draws_from draws n at j in
      let q : 64 - j ≡ suc (64 - suc j) = omega arith in
      record {
        within = omega arith;
        list =
            ap (λ (l : List ℕ). set l (j + 1) v) inv.list
            ∙ rw (add-one, q)
            (ap (λ (l : List ℕ). s ∷ l)
            (set_at D 0 (replicate (64 - suc j) 0) v j (length-draws draws n at j)
            ∙ sym (append_assoc D (v ∷ []) (replicate (64 - suc j) 0))
            ∙ ap (λ (x : ℕ). (D ++ (x ∷ [])) ++ replicate (64 - suc j) 0) e
            ∙ ap (λ (l : List ℕ). l ++ replicate (64 - suc j) 0) (draws-more draws n at j)));
      }

  pub drawing_end : s ≤ j → us ≡ member_words (draws_from draws n at s)
  unfolding member_words padded
  drawing_end h =
      let w = inv.within in
      let same : j ≡ s = omega arith in
      inv.list ∙ rw (same, length-draws draws n at s)

-- ---- a part written behind what stands

pub put_next : {A : Type 0} (a w : ℕ) (xs ys : List A) → a + w ≤ length xs → length ys ≡ w → take (a + w) (put_mid a w xs ys) ≡ take a xs ++ ys
put_next {A} a w xs ys h e =
    let l = length-take-le a xs (omega arith) in
    ap (take (a + w)) (sym (append_assoc (take a xs) ys (drop w (drop a xs))))
    ∙ take_at (take a xs ++ ys) (drop w (drop a xs)) (a + w) (length-append (take a xs) ys ∙ omega arith)

-- ---- the context of a node

no-members : {m : ℕ} {us : List ℕ} → us ≡ replicate m 0 → m ≡ 65 → us ≡ member_words []
unfolding member_words padded
no-members e f = e ∙ rw f

module _ (draws : List ℕ) (n s i : ℕ) (few : s ≤ 64) (us₀ : List ℕ) (long : length us₀ ≡ 260) where
  pub context_written : {a b c e : List ℕ} → a ≡ member_words (draws_from draws n (2 * s * i) s) → b ≡ replicate (length (mid_of 65 65 (put_mid 0 65 us₀ a))) 0 → c ≡ member_words (draws_from draws n (2 * s * i + s) s)
      → e ≡ replicate (length (mid_of 195 65 (put_mid 130 65 (put_mid 65 65 (put_mid 0 65 us₀ a) b) c))) 0
      → put_mid 195 65 (put_mid 130 65 (put_mid 65 65 (put_mid 0 65 us₀ a) b) c) e ≡ context_words (begin_context draws n s i ∷ [])
  unfolding context_words begin_context
  context_written {a} {b} {c} {e} ea eb ec ee =
      let us₁ = put_mid 0 65 us₀ a in
      let us₂ = put_mid 65 65 us₁ b in
      let us₃ = put_mid 130 65 us₂ c in
      let la : length a ≡ 65 = ap length ea ∙ length-member_words (draws_from draws n (2 * s * i) s) (let l = length-draws draws n (2 * s * i) s in omega arith) in
      let lc : length c ≡ 65 = ap length ec ∙ length-member_words (draws_from draws n (2 * s * i + s) s) (let l = length-draws draws n (2 * s * i + s) s in omega arith) in
      let l₁ : length us₁ ≡ 260 = put-length 0 65 us₀ a (omega arith) la ∙ long in
      let mb : b ≡ member_words [] = no-members eb (length-area 65 65 us₁ (omega arith)) in
      let lb : length b ≡ 65 = ap length mb ∙ length-member_words [] (omega arith) in
      let l₂ : length us₂ ≡ 260 = put-length 65 65 us₁ b (omega arith) lb ∙ l₁ in
      let l₃ : length us₃ ≡ 260 = put-length 130 65 us₂ c (omega arith) lc ∙ l₂ in
      let me : e ≡ member_words [] = no-members ee (length-area 195 65 us₃ (omega arith)) in
      let le : length e ≡ 65 = ap length me ∙ length-member_words [] (omega arith) in
      let l₄ : length (put_mid 195 65 us₃ e) ≡ 260 = put-length 195 65 us₃ e (omega arith) le ∙ l₃ in
      let t₁ : take 65 us₁ ≡ a = put_next 0 65 us₀ a (omega arith) la in
      let t₂ : take 130 us₂ ≡ a ++ b = put_next 65 65 us₁ b (omega arith) lb ∙ ap (λ (l : List ℕ). l ++ b) t₁ in
      let t₃ : take 195 us₃ ≡ (a ++ b) ++ c = put_next 130 65 us₂ c (omega arith) lc ∙ ap (λ (l : List ℕ). l ++ c) t₂ in
      sym (take_all 260 (put_mid 195 65 us₃ e) (omega arith))
      ∙ put_next 195 65 us₃ e (omega arith) le
      ∙ ap (λ (l : List ℕ). l ++ e) t₃
      ∙ append_assoc (a ++ b) c e
      ∙ append_assoc a b (c ++ e)
      ∙ ap (λ (l : List ℕ). l ++ (b ++ (c ++ e))) ea
      ∙ ap (λ (l : List ℕ). member_words (draws_from draws n (2 * s * i) s) ++ (l ++ (c ++ e))) mb
      ∙ ap (λ (l : List ℕ). member_words (draws_from draws n (2 * s * i) s) ++ (member_words [] ++ (l ++ e))) ec
      ∙ ap (λ (l : List ℕ). member_words (draws_from draws n (2 * s * i) s) ++ (member_words [] ++ (member_words (draws_from draws n (2 * s * i + s) s) ++ l))) (me ∙ sym (append-nil (member_words [])))

-- ---- the contexts of all nodes

pub record Beginning (draws : List ℕ) (n s : ℕ) (us : List ℕ) (i : ℕ) : Type 0 where
  pub within : i ≤ n
  pub long : length us ≡ 260 * n
  pub list : take (260 * i) us ≡ context_words (each (λ (j : ℕ). begin_context draws n s j ∷ []) i)

pub beginning_none : {draws : List ℕ} {n s : ℕ} {us : List ℕ} → length us ≡ 260 * n → Beginning draws n s us 0
unfolding each context_words
beginning_none e = record { within = zero-le; long = e; list = refl }

module _ {draws : List ℕ} {n s : ℕ} {us : List ℕ} {i : ℕ} (inv : Beginning draws n s us i) where
  pub beginning_turn : {w : ℕ} {ys : List ℕ} → w ≡ 260 → i < n → length ys ≡ length (mid_of (260 * i) w us) → ys ≡ context_words (begin_context draws n s i ∷ [])
      → Beginning draws n s (put_mid (260 * i) w us ys) (i + 1)
  unfolding each
  beginning_turn {w} {ys} e h l f =
      let long = inv.long in
      let cs = each (λ (j : ℕ). begin_context draws n s j ∷ []) i in
      let inside : 260 * i + 260 ≤ length us = omega arith in
      let yl : length ys ≡ 260 = l ∙ ap (λ (m : ℕ). length (mid_of (260 * i) m us)) e ∙ length-area (260 * i) 260 us inside in
      let step : 260 * (i + 1) ≡ 260 * i + 260 = omega arith in
      rw e
      (record {
        within = omega arith;
        long = put-length (260 * i) 260 us ys inside yl ∙ long;
        list =
            ap (λ (m : ℕ). take m (put_mid (260 * i) 260 us ys)) step
            ∙ put_next (260 * i) 260 us ys inside yl
            ∙ ap (λ (r : List ℕ). r ++ ys) inv.list
            ∙ ap (λ (r : List ℕ). context_words cs ++ r) f
            ∙ sym (rw add-one (words_append cs (begin_context draws n s i ∷ [])));
      })
