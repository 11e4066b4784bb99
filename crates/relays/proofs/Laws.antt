-- One turn and the end of the loop over our floats. Assumes nothing.
use Rattle.std.proofs.Common.{◌≡◌, ℕ, suc, ◌+◌, ◌-◌, ◌<◌, ◌≤◌, List, length, get_or, drop, sym, ap, ◌∙◌, add-one, arith, drop_of_length-le, drop-cons, eq-eqb, ne_eqb}
use lib.Ieee.{Float, nan}
use Rattle.cases.specs.declared.Cursor.{Cursor}
use Rattle.cases.specs.declared.Read.{Read}
use Rattle.cases.specs.Text.{word_at, words_at, behind}
use Rattle.cases.proofs.Laws.{words_turn}
use Rattle.relays.specs.Bits.{bits_of, agreeing}

-- The first i of our floats are compared, and what is left says what the whole says.
pub record Counting (text : List ℕ) (ours : List Float) (c₀ : Cursor) (i at : ℕ) (c : Cursor) : Type 0 where
  pub most : at ≤ i
  pub count : at + agreeing (drop i ours) (words_at (length ours - i) text c) ≡ agreeing ours (words_at (length ours) text c₀)
  pub place : behind (length ours - i) text c ≡ behind (length ours) text c₀

module _ (text : List ℕ) (ours : List Float) (c₀ : Cursor) where
  pub counting_none : Counting text ours c₀ 0 0 c₀
  counting_none =
      let e : length ours - 0 ≡ length ours = omega arith in
      record {
        most = omega arith;
        count = omega (arith, ap (λ (n : ℕ). agreeing ours (words_at n text c₀)) e);
        place = ap (λ (n : ℕ). behind n text c₀) e;
      }

  module _ (i at : ℕ) (c : Cursor) (inv : Counting text ours c₀ i at c) where
    pub counting_end : length ours ≤ i → (at ≡ agreeing ours (words_at (length ours) text c₀)) × (c ≡ behind (length ours) text c₀)
    unfolding agreeing behind
    counting_end h =
        let none : length ours - i ≡ 0 = omega arith in
        let left : agreeing (drop i ours) (words_at (length ours - i) text c) ≡ 0 = rw (drop_of_length-le ours h) in
        let place : c ≡ behind (length ours) text c₀ = rw none at inv.place in
        (omega (arith, left, inv.count), place)

    module _ (w : Read ℕ) (e : w ≡ word_at text c) (h : i < length ours) (v : ℕ) (here : v ≡ bits_of (get_or ours i nan)) where
      there : behind (length ours - (i + 1)) text w.cursor ≡ behind (length ours) text c₀
      unfolding behind
      there =
          let m = length ours - (i + 1) in
          let less : length ours - i ≡ suc m = omega arith in
          let step : behind (length ours - i) text c ≡ behind m text w.cursor =
          ap (λ (n : ℕ). behind n text c) less ∙ ap (λ (u : Read ℕ). behind m text u.cursor) (sym e) in
          sym step ∙ inv.place

      rest : ℕ
      rest = agreeing (drop (i + 1) ours) (words_at (length ours - (i + 1)) text w.cursor)

      pub counting_same : w.value ≡ v → Counting text ours c₀ (i + 1) (at + 1) w.cursor
      unfolding agreeing rest
      counting_same same =
          let one : agreeing (drop i ours) (words_at (length ours - i) text c) ≡ 1 + rest =
          rw (drop-cons ours i nan h, words_turn (length ours) i text c w e h, ← here, eq-eqb w.value v same, add-one) in
          record { most = omega (arith, inv.most); count = omega (arith, one, inv.count); place = there }

      pub counting_other : (w.value ≡ v → ⊥) → Counting text ours c₀ (i + 1) at w.cursor
      unfolding agreeing rest
      counting_other differs =
          let one : agreeing (drop i ours) (words_at (length ours - i) text c) ≡ 0 + rest =
          rw (drop-cons ours i nan h, words_turn (length ours) i text c w e h, ← here, ne_eqb w.value v differs, add-one) in
          record { most = omega (arith, inv.most); count = omega (arith, one, inv.count); place = there }
