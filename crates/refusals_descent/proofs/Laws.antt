-- One turn and the end of each loop that changes a state. Assumes nothing.
use mathlib.Core.Path.{◌≡◌, refl, ap, ◌∙◌}
use mathlib.Core.List.{List}
use Prim.Native.Nat.{ℕ, zero, suc, ◌+◌, ◌-◌, ◌*◌, ◌≤◌, ◌<◌, min}
use Rattle.std.proofs.Common.{inl, inr}
use Rattle.std.proofs.lemmas.Bool.{cases_lt}
use native.Mathlib.Numerals.{add-one}
use native.Mathlib.Omega.{arith}
use lib.ListN.{length, set}
use lib.Seq.{set_out}
use lib.Ieee.{Float}
use Rattle.cases.specs.declared.Cursor.{Cursor}
use Rattle.cases.specs.declared.Read.{Read}
use Rattle.cases.specs.Text.{word_at, size_at, behind}
use Rattle.refusals.specs.Given.{bits_of}
use Rattle.refusals_descent.specs.Given.{filled, words_changed, floats_changed, words_harmed, floats_harmed, behind_changes}

module _ (word : ℕ) where
  -- past the last place nothing is written
  filled_out : (at left : ℕ) (words : List ℕ) → length words ≤ at → filled at left word words ≡ words
  unfolding filled
  filled_out at zero words h = refl
  filled_out at (suc n) words h = rw (set_out words at word h) (filled_out (suc at) n words (omega arith))

  module _ (end at : ℕ) (words : List ℕ) where
    pub filled_turn : at < end → filled (at + 1) (end - (at + 1)) word (set words at word) ≡ filled at (end - at) word words
    unfolding filled
    filled_turn h =
        let less : suc (end - suc at) ≡ end - at = omega arith in
        rw (add-one at) (ap (λ (n : ℕ). filled at n word words) less)

    pub filled_end : min end (length words) ≤ at → filled at (end - at) word words ≡ words
    unfolding filled
    filled_end h = elim (cases_lt at end) [
      | inl more ↦ filled_out at (end - at) words (omega (arith, h, more))
      | inr over ↦ (let none : end - at ≡ 0 = omega (arith, over) in ap (λ (n : ℕ). filled at n word words) none)
    ]

module _ (text : List ℕ) where
  pub words_turn :
      (n done : ℕ) (c : Cursor) (from long word : Read ℕ) (words words' : List ℕ)
      → from ≡ word_at text c → long ≡ word_at text from.cursor → word ≡ word_at text long.cursor
      → words' ≡ filled from.value long.value word.value words → done < n
      → (words_changed text (n - (done + 1)) word.cursor words' ≡ words_changed text (n - done) c words) × (behind ((n - (done + 1)) * 3) text word.cursor ≡ behind ((n - done) * 3) text c)
  unfolding words_changed behind
  words_turn n done c from long word words words' e f g filling h =
      let one : suc (n - (done + 1)) ≡ n - done = omega arith in
      let three : suc (suc (suc ((n - (done + 1)) * 3))) ≡ (n - done) * 3 = omega arith in
      let after : Read ℕ → Read ℕ = λ (w : Read ℕ). word_at text w.cursor in
      let left : Read ℕ → Read ℕ → Read ℕ → List ℕ =
      λ (a b d : Read ℕ). words_changed text (n - (done + 1)) d.cursor (filled a.value b.value d.value words) in
      let end : Read ℕ → Cursor = λ (d : Read ℕ). behind ((n - (done + 1)) * 3) text d.cursor in (
        ap (words_changed text (n - (done + 1)) word.cursor) filling ∙ ap (left from long) g ∙ ap (λ (b : Read ℕ). left from b (after b)) f
            ∙ ap (λ (a : Read ℕ). left a (after a) (after (after a))) e ∙ ap (λ (k : ℕ). words_changed text k c words) one,
        ap end g
            ∙ ap (λ (b : Read ℕ). end (after b)) f ∙ ap (λ (a : Read ℕ). end (after (after a))) e ∙ ap (λ (k : ℕ). behind k text c) three,
      )

  pub words_end :
      (n done : ℕ) (c : Cursor) (words : List ℕ) → n ≤ done → (words ≡ words_changed text (n - done) c words) × (c ≡ behind ((n - done) * 3) text c)
  unfolding words_changed behind
  words_end n done c words h =
      let none : 0 ≡ n - done = omega arith in
      (ap (λ (k : ℕ). words_changed text k c words) none, ap (λ (k : ℕ). behind (k * 3) text c) none)

  pub words_harmed_lem :
      (c : Cursor) (s : Read ℕ) (words : List ℕ) → s ≡ size_at 8 text c → words_changed text s.value s.cursor words ≡ words_harmed text c words
  unfolding words_harmed
  words_harmed_lem c s words e = ap (λ (t : Read ℕ). words_changed text t.value t.cursor words) e

  pub floats_turn :
      (n done : ℕ) (c : Cursor) (at bits : Read ℕ) (floats floats' : List Float)
      → at ≡ word_at text c → bits ≡ word_at text at.cursor
      → floats' ≡ set floats at.value (bits_of bits.value) → done < n
      → (floats_changed text (n - (done + 1)) bits.cursor floats' ≡ floats_changed text (n - done) c floats) × (behind ((n - (done + 1)) * 2) text bits.cursor ≡ behind ((n - done) * 2) text c)
  unfolding floats_changed behind
  floats_turn n done c at bits floats floats' e f put h =
      let one : suc (n - (done + 1)) ≡ n - done = omega arith in
      let two : suc (suc ((n - (done + 1)) * 2)) ≡ (n - done) * 2 = omega arith in
      let after : Read ℕ → Read ℕ = λ (w : Read ℕ). word_at text w.cursor in
      let left : Read ℕ → Read ℕ → List Float =
      λ (a b : Read ℕ). floats_changed text (n - (done + 1)) b.cursor (set floats a.value (bits_of b.value)) in
      let end : Read ℕ → Cursor = λ (b : Read ℕ). behind ((n - (done + 1)) * 2) text b.cursor in (
        ap (floats_changed text (n - (done + 1)) bits.cursor) put ∙ ap (left at) f ∙ ap (λ (a : Read ℕ). left a (after a)) e
            ∙ ap (λ (k : ℕ). floats_changed text k c floats) one,
        ap end f ∙ ap (λ (a : Read ℕ). end (after a)) e
            ∙ ap (λ (k : ℕ). behind k text c) two,
      )

  pub floats_end :
      (n done : ℕ) (c : Cursor) (floats : List Float) → n ≤ done → (floats ≡ floats_changed text (n - done) c floats) × (c ≡ behind ((n - done) * 2) text c)
  unfolding floats_changed behind
  floats_end n done c floats h =
      let none : 0 ≡ n - done = omega arith in
      (ap (λ (k : ℕ). floats_changed text k c floats) none, ap (λ (k : ℕ). behind (k * 2) text c) none)

  pub floats_harmed_lem :
      (c : Cursor) (s : Read ℕ) (floats : List Float) → s ≡ size_at 8 text c → floats_changed text s.value s.cursor floats ≡ floats_harmed text c floats
  unfolding floats_harmed
  floats_harmed_lem c s floats e = ap (λ (t : Read ℕ). floats_changed text t.value t.cursor floats) e

  pub changes_behind : (each : ℕ) (c : Cursor) (s : Read ℕ) → s ≡ size_at 8 text c → behind (s.value * each) text s.cursor ≡ behind_changes text each c
  unfolding behind_changes
  changes_behind each c s e = ap (λ (t : Read ℕ). behind (t.value * each) text t.cursor) e
