-- `cases::read_digits` meets its contract: what is left says what the whole says. Assumes nothing.
use Rattle.std.proofs.Common.{◌≡◌, ◌≤◌, length, drop, max}
use Rattle.cases.specs.Text.{digits_of}
use Rattle.cases.proofs.read_digits.Given as goal

abbrev pub invariant-loop-at : goal.invariant-loop-at
invariant-loop-at l = record {
  rest : digits_of l.value (drop l.at l.text) l.at ≡ digits_of 0 (drop l.start l.text) l.start;
  within : l.at ≤ max l.start (length l.text);
}
