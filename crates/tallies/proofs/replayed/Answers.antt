-- What the search leaves of `tallies::replayed`.
use Rattle.std.proofs.Common.{◌∙◌, sym}
use Rattle.tallies.proofs.Turns.{tallied_over, tallied_end, tallied_other, tallied_turn}
use Rattle.tallies.proofs.replayed.Goals as goal

pub returns-in_default : goal.returns-in_default
returns-in_default g c = λ came comes.
    c.ended.ensures ∙ tallied_end came _ _ _ _ c.loop-turn-test.true _ c.next_case-case.ensures c.in_default.is ∙ c.loop-turn.invariant came comes

pub returns-in_default-one_case : goal.returns-in_default-one_case
returns-in_default-one_case g c = λ came comes.
    let there = sym c.in_default-one_case.is ∙ comes _ _ _ _ c.one_case.ensures in
    c.ended-in_default-one_case.ensures
    ∙ tallied_other came _ _ _ _ c.loop-turn-test.true _ c.next_case-case.ensures _ c.in-Some.is there ∙ c.loop-turn.invariant came comes

pub loop-turn-preserved : goal.loop-turn-preserved
loop-turn-preserved g c = λ came comes.
    let there = sym c.in-Some-one_case.is ∙ comes _ _ _ _ c.one_case.ensures in
    tallied_turn came _ _ _ _ c.loop-turn-test.true _ c.next_case-case.ensures _ _ _ c.in-Some.is there c.in_ok-t.ensures.value
    ∙ c.loop-turn.invariant came comes

pub returns : goal.returns
returns g c = λ came comes. tallied_over came _ _ _ _ c.loop-turn-test.false ∙ c.loop-turn.invariant came comes
