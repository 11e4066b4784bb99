-- `name_counters::tables::words` meets its contract: an end that is not in the text, or in front of the place, leaves no words. Assumes nothing.
use Rattle.std.proofs.Common.{◌≡◌, ℕ, zero, suc, ◌<◌, ◌≤◌, ◌+◌, ◌-◌, ◌⊎◌, inl, inr, List, [], length, take, slice_range, Option, Some, None, refl, sym, ap, ◌∙◌, arith, drop_of_length-le}
use Rattle.std.specs.Option.{MatchOption, unwrap_or}
use Rattle.std.proofs.lemmas.Bool.{cases_lt}
use Rattle.lines.specs.declared.Part.TheVariants.{Words}
use Rattle.lines.specs.Words.{end_from}
use Rattle.lines.proofs.Places.{end-within}
use Rattle.name_counters.proofs.tables.words.Goals as goal

no_words : (n : ℕ) → take {A = ℕ} n [] ≡ []
no_words zero = refl
no_words (suc n) = refl

module _ (text : List ℕ) (from end : ℕ) (e : end ≡ end_from Words text from) where
  outside : (end < from) ⊎ (length text < end) → slice_range text from end ≡ []
  outside (inl less) =
      let none : end - from ≡ 0 = omega arith in
      rw none
  outside (inr over) = elim (cases_lt (length text) from) [
    | inl behind ↦ (let past : length text ≤ from = omega arith in rw (drop_of_length-le text past) (no_words (end - from)))
    | inr within ↦ absurd (omega (arith, (end-within Words text from within).1, e))
  ]

  words_are :
      {B : Type 0} (now : B → List ℕ) (o : Option B) (d : B) → now d ≡ []
      → MatchOption o ((end < from) ⊎ (length text < end)) (λ x. from ≤ end × end ≤ length text × now x ≡ slice_range text from end × length (now x) + from ≡ end)
      → now (unwrap_or o d) ≡ slice_range text from (end_from Words text from)
  words_are now None d none h = rw (← e) (none ∙ sym (outside h))
  words_are now (Some x) d none h = rw (← e) h.2

pub returns : goal.returns
returns c = ap (λ b. b.now) c.unwrap_or.ensures ∙ words_are _ _ _ c.find-end.ensures (λ b. b.now) c.get.result _ refl c.get.ensures.lookup.0
