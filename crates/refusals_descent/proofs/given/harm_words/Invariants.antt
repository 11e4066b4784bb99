-- `refusals_descent::given::harm_words` meets its contract: what is left to change leads to what the whole leads to. Assumes nothing.
use Rattle.std.proofs.Common.{◌≡◌, ◌-◌, ◌*◌}
use Rattle.cases.specs.Text.{behind}
use Rattle.refusals_descent.specs.Given.{words_changed}
use Rattle.refusals_descent.proofs.given.harm_words.Given as goal

abbrev pub invariant-loop-done : goal.invariant-loop-done
invariant-loop-done l = record {
  words : words_changed l.text (l._done-end - l._done) l.cursor l.words ≡ words_changed l.text l._done-end l.initial.cursor l.initial.words;
  place : behind ((l._done-end - l._done) * 3) l.text l.cursor ≡ behind (l._done-end * 3) l.text l.initial.cursor;
}
