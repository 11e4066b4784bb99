-- `refusals_descent::given::harm_floats` meets its contract: what is left to change leads to what the whole leads to. Assumes nothing.
use Rattle.std.proofs.Common.{◌≡◌, ◌-◌, ◌*◌}
use Rattle.cases.specs.Text.{behind}
use Rattle.refusals_descent.specs.Given.{floats_changed}
use Rattle.refusals_descent.proofs.given.harm_floats.Given as goal

abbrev pub invariant-loop-done : goal.invariant-loop-done
invariant-loop-done l = record {
  floats : floats_changed l.text (l._done-end - l._done) l.cursor l.floats ≡ floats_changed l.text l._done-end l.initial.cursor l.initial.floats;
  place : behind ((l._done-end - l._done) * 2) l.text l.cursor ≡ behind (l._done-end * 2) l.text l.initial.cursor;
}
