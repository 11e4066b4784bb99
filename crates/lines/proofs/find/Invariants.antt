-- `lines::find` meets its contract: what is left says what the whole says. Assumes nothing.
use Rattle.std.proofs.Common.{◌≡◌, ◌≤◌, length, max}
use Rattle.lines.specs.Words.{end_from}
use Rattle.lines.proofs.find.Given as goal

abbrev pub invariant-loop-at : goal.invariant-loop-at
invariant-loop-at l =
    record { within : l.at ≤ max l.from (length l.text); same : end_from l.part l.text l.at ≡ end_from l.part l.text l.from }
