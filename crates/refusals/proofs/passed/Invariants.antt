-- `refusals::passed` meets its contract: the cases that are left end where all do. Assumes nothing.
use Rattle.std.proofs.Common.{◌≡◌, ◌-◌}
use Rattle.cases.specs.Text.{first}
use Rattle.cases.specs.declared.Cursor.{Cursor}
use Rattle.refusals.specs.Cases.{cases_passed, Leads}
use Rattle.refusals.proofs.passed.Given as goal

abbrev pub invariant-loop-turn : goal.invariant-loop-turn
invariant-loop-turn g l =
    (next : Cursor → Cursor) → Leads (goal.F-post g l.one_case) next
    → cases_passed next (65536 - l._turn) l.text l.value l.cursor ≡ cases_passed next 65536 l.text 0 first
