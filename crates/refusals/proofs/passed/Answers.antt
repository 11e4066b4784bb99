-- What the search leaves of `refusals::passed`.
use Rattle.std.proofs.Common.{◌≡◌, ◌∙◌, rules}
use Rattle.std.proofs.lemmas.Result.{IfOk-at_ok}
use Rattle.cases.specs.declared.Cursor.{Cursor}
use Rattle.refusals.proofs.Turns.{cases_over, cases_end, cases_turn}
use Rattle.refusals.proofs.passed.Goals as goal

pub returns-in_default : goal.returns-in_default
returns-in_default g c = λ next leads. cases_end next _ _ _ _ _ c.loop-turn-test.true _ c.next_case-case.ensures (search rules) ∙ c.loop-turn.invariant next leads

pub loop-turn-preserved : goal.loop-turn-preserved
loop-turn-preserved g c = λ next leads.
    let there = leads _ _ _ c.one_case.result c.one_case.ensures in
    cases_turn next _ _ _ _ _ c.loop-turn-test.true _ c.next_case-case.ensures _ _ c.in-Some.is (IfOk-at_ok (λ (d : Cursor). d ≡ next c.next_case-case.result.cursor) c.in_ok-cursor.was there) ∙ c.loop-turn.invariant next leads

pub returns : goal.returns
returns g c = λ next leads. cases_over next _ _ _ _ _ c.loop-turn-test.false ∙ c.loop-turn.invariant next leads
