-- What became of the places that a call was lent. Assumes nothing.
use Rattle.std.specs.Prelude.{Ok, Err, Bool, false, cond, List, ℕ, eqb, Float}
use Rattle.rules.specs.Answers.{IterateAnswer}
use Rattle.states.specs.Same.{alike, same_bits}
use Rattle.refusals.specs.declared.Left.{Left}
use Rattle.refusals.specs.declared.Left.TheVariants.{Written}
use Rattle.refusals.specs.Junk.{left_of}

-- A state as it was given
unfoldable pub stands_as : List ℕ → List Float → List ℕ → List Float → Bool
stands_as us fs given_us given_fs = cond (alike eqb us given_us) (alike same_bits fs given_fs) false

-- A refusal leaves the state too
unfoldable pub left_by : IterateAnswer → Bool → List ℕ → List Float → Left
left_by (Ok _) stands words floats = left_of words floats
left_by (Err r) stands words floats = cond stands (left_of words floats) Written
