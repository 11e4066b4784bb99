-- What the entry `move_job` is lent, and what it leaves. Assumes nothing.
use Rattle.std.specs.Prelude.{◌≡◌, List, ℕ, Float}
use Rattle.rules.specs.Answers.{Answer}
use Rattle.rules.specs.Refusals.{said_of}
use Rattle.rules.specs.RelayCall.{MoveLent, MoveOutcome, move_rule}

abbrev pub lent : ℕ → ℕ → ℕ → List ℕ → List Float → MoveLent
lent n k job us fs = record { n = n; k = k; job = job; state_u = us; state_f = fs }

abbrev pub move_left : Answer → List ℕ → List Float → MoveOutcome
move_left r us fs = record { said = said_of r; state_u = us; state_f = fs }

-- what a move leaves is what the rulebook says of what it was lent
pub record Moved (l : MoveLent) (r : Answer) (us : List ℕ) (fs : List Float) : Type 0 where
  pub whole : move_left r us fs ≡ move_rule l
