-- `kinds::times` meets its contract: what is left leads to the same place. Assumes nothing.
use Rattle.std.proofs.Common.{◌≡◌, ◌-◌}
use Rattle.cases.specs.declared.Cursor.{Cursor}
use Rattle.kinds.specs.Kinds.{times, Steps}
use Rattle.kinds.proofs.times.Given as goal

abbrev pub invariant-loop : goal.invariant-loop
invariant-loop g l =
    (made : Cursor → Cursor) → Steps (goal.F-post g l.step) made → times made (l.count - l.counter) l.cursor ≡ times made l.count l.initial.cursor
