-- What the entry `iterate` leaves. Assumes nothing.
use Rattle.std.specs.Prelude.{◌≡◌, List, ℕ, Float}
use Rattle.rules.specs.Answers.{IterateAnswer}
use Rattle.rules.specs.DescentCall.{DescentLent, IterateOutcome, iterate_said, iterate_rule}
use Rattle.descent.specs.Descent.{left}

-- an answer with what was left, as an outcome
abbrev pub iterate_left : IterateAnswer → List ℕ → List Float → List ℕ → List Float → IterateOutcome
iterate_left r us fs su sf = record { said = iterate_said r; left = left us fs su sf }

-- what an iteration leaves is what the rulebook says of what it was lent
pub record IteratedAll (l : DescentLent) (r : IterateAnswer) (us : List ℕ) (fs : List Float) (su : List ℕ) (sf : List Float) : Type 0 where
  pub whole : iterate_left r us fs su sf ≡ iterate_rule l
