-- What the search leaves of `cases::read_digits`.
use Rattle.std.proofs.Common.{◌≡◌, ℕ, ap, sym, ◌∙◌, arith, rules}
use Rattle.cases.specs.declared.Digits.{Digits}
use Rattle.cases.proofs.Laws.{none, digits_end, digits_stop, digits_full, digits_turn}
use Rattle.cases.proofs.read_digits.Goals as goal

pub returns-in_default : goal.returns-in_default
returns-in_default c = sym (digits_stop _ _ _ (search rules) (sym c.digit_of.ensures.value ∙ none _ c.in_default.not-Some)) ∙ c.loop-at.invariant.rest

pub returns-then-value-ge4294967296 : goal.returns-then-value-ge4294967296
returns-then-value-ge4294967296 c =
    sym (digits_full _ _ _ _ (search rules) (sym c.digit_of.ensures.value ∙ c.in-Some.is) c.if-value-ge4294967296.true) ∙ c.loop-at.invariant.rest

pub loop-at-preserved : goal.loop-at-preserved
loop-at-preserved c = record {
  rest = digits_turn c.args.text.now c.loop-at.at c.loop-at.value c.in-Some.digit (search rules) (sym c.digit_of.ensures.value ∙ c.in-Some.is) (search rules) ∙ c.loop-at.invariant.rest;
  within = omega arith;
}

pub returns : goal.returns
returns c =
    let e : c.max.result ≡ c.loop-at.at = omega arith in
    let at : ℕ → Digits = λ n. record { value = c.loop-at.value; at = n } in
    ap at e ∙ sym (digits_end _ _ _ (search rules)) ∙ c.loop-at.invariant.rest
