-- What the search leaves of `refusals_descent::given::harm_words`.
use Rattle.std.proofs.Common.{◌∙◌}
use Rattle.refusals_descent.proofs.Laws.{words_turn, words_end, words_harmed_lem, changes_behind}
use Rattle.refusals_descent.proofs.given.harm_words.Goals as goal

pub loop-done-preserved : goal.loop-done-preserved
loop-done-preserved c =
    let l = c.loop-done in
    let turn = words_turn _ _ l._done _ _ _ _ l.words _ c.read_word-from.ensures c.read_word-long.ensures c.read_word-word.ensures c.fill_run.ensures c.loop-done-test.true in
    record { words = turn.0 ∙ l.invariant.words; place = turn.1 ∙ l.invariant.place }

pub returns : goal.returns
returns c =
    let l = c.loop-done in
    let size = c.read_size-count.ensures.value in
    let end = words_end _ _ l._done l.cursor l.words c.loop-done-test.false in
    record { words_after = end.0 ∙ l.invariant.words ∙ words_harmed_lem _ _ _ _ size; value = end.1 ∙ l.invariant.place ∙ changes_behind _ 3 _ _ size }
