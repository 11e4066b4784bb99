-- What the search leaves of `refusals_descent::given::harm_floats`.
use Rattle.std.proofs.Common.{◌∙◌}
use Rattle.refusals_descent.proofs.Laws.{floats_turn, floats_end, floats_harmed_lem, changes_behind}
use Rattle.refusals_descent.proofs.given.harm_floats.Goals as goal

pub loop-done-preserved : goal.loop-done-preserved
loop-done-preserved c =
    let l = c.loop-done in
    let turn = floats_turn _ _ l._done _ _ _ l.floats _ c.read_word-at.ensures c.read_word-bits.ensures (rw (← c.float_of.ensures) c.put_at.ensures) c.loop-done-test.true in
    record { floats = turn.0 ∙ l.invariant.floats; place = turn.1 ∙ l.invariant.place }

pub returns : goal.returns
returns c =
    let l = c.loop-done in
    let size = c.read_size-count.ensures.value in
    let end = floats_end _ _ l._done l.cursor l.floats c.loop-done-test.false in
    record { floats_after = end.0 ∙ l.invariant.floats ∙ floats_harmed_lem _ _ _ _ size; value = end.1 ∙ l.invariant.place ∙ changes_behind _ 2 _ _ size }
