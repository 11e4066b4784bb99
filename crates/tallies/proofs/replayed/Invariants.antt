-- `tallies::replayed` meets its contract: the cases that are left come to what all do. Assumes nothing.
use Rattle.std.proofs.Common.{◌≡◌, ℕ, ◌-◌, List, Option}
use Rattle.cases.specs.declared.Cursor.{Cursor}
use Rattle.kinds.specs.declared.Kind.{Kind}
use Rattle.tallies.specs.declared.Outcome.{Outcome}
use Rattle.tallies.specs.Tallies.{no_case, tallied, Comes}
use Rattle.tallies.proofs.replayed.Given as goal

abbrev pub invariant-loop-turn : goal.invariant-loop-turn
invariant-loop-turn g l =
    (came : List ℕ → Kind → Cursor → Option Outcome) → Comes (goal.F-post g l.one_case) came
    → tallied came (65536 - l._turn) l.text l.t ≡ tallied came 65536 l.text no_case
