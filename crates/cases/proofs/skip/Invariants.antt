-- `cases::skip` meets its contract: what is left says what the whole says. Assumes nothing.
use Rattle.std.proofs.Common.{◌≡◌, ◌≤◌, length, drop, max}
use Rattle.cases.specs.declared.Mode.TheVariants.{Between}
use Rattle.cases.specs.Text.{skipped}
use Rattle.cases.proofs.skip.Given as goal

abbrev pub invariant-loop-at : goal.invariant-loop-at
invariant-loop-at l = record {
  rest : skipped l.mode (drop l.at l.text) l.at ≡ skipped Between (drop l.start l.text) l.start;
  within : l.at ≤ max l.start (length l.text);
}
