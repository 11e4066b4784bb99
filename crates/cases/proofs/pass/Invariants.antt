-- `cases::pass` meets its contract: what is left leads to the same place. Assumes nothing.
use Rattle.std.proofs.Common.{◌≡◌, ◌-◌}
use Rattle.cases.specs.Text.{behind}
use Rattle.cases.proofs.pass.Given as goal

abbrev pub invariant-loop : goal.invariant-loop
invariant-loop l = behind (l.n - l.counter) l.text l.cursor ≡ behind l.n l.text l.initial.cursor
