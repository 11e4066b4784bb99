-- An end and a word stand between the place that is asked from and the end of the text. Assumes nothing.
use Rattle.std.proofs.Common.{◌≡◌, ℕ, suc, ◌+◌, ◌≤◌, List, [], ◌∷◌, length, drop, refl, arith, length-drop}
use Rattle.lines.proofs.Choice.{both}
use Rattle.lines.specs.declared.Part.{Part}
use Rattle.lines.specs.declared.Part.TheVariants.{OneWord, Blanks}
use Rattle.lines.specs.declared.Word.{Word}
use Rattle.lines.specs.Words.{stops, end_of, end_from, empty_at, with_byte, word_of, word_at}

module _ (part : Part) where
  end-between : (bs : List ℕ) (at : ℕ) → (at ≤ end_of part bs at) × (end_of part bs at ≤ at + length bs)
  unfolding end_of
  end-between [] at = (omega arith, omega arith)
  end-between (b ∷ bs) at =
      let h = end-between bs (suc at) in
      both (λ (e : ℕ). (at ≤ e) × (e ≤ at + length (b ∷ bs))) (stops b part) at (end_of part bs (suc at)) (omega arith, omega arith)
      (omega (arith, h.0), omega (arith, h.1))

  pub end-within : (text : List ℕ) (at : ℕ) → at ≤ length text → (at ≤ end_from part text at) × (end_from part text at ≤ length text)
  end-within text at h =
      let e = end-between (drop at text) at in
      let l = length-drop at text in
      (e.0, omega (arith, e.1, l))

word-between : (bs : List ℕ) (w : Word) → ((word_of w bs).start ≡ w.start) × (w.end ≤ (word_of w bs).end) × ((word_of w bs).end ≤ w.end + length bs)
unfolding word_of
word-between [] w = (refl, omega arith, omega arith)
word-between (b ∷ bs) w =
    let h = word-between bs (with_byte w b) in
    both (λ (v : Word). (v.start ≡ w.start) × (w.end ≤ v.end) × (v.end ≤ w.end + length (b ∷ bs))) (stops b OneWord) w (word_of (with_byte w b) bs)
    (refl, omega arith, omega arith) (h.0, omega (arith, h.1), omega (arith, h.2))

pub word_within :
    (text : List ℕ) (from : ℕ) → from ≤ length text
    → (from ≤ (word_at text from).start) × ((word_at text from).start ≤ (word_at text from).end) × ((word_at text from).end ≤ length text)
unfolding word_at
word_within text from h =
    let e = end-within Blanks text from h in
    let start = end_from Blanks text from in
    let w = word-between (drop start text) (empty_at start) in
    let l = length-drop start text in
    (omega (arith, e.0, w.0), omega (arith, w.0, w.1), omega (arith, w.2, l, e.1))
