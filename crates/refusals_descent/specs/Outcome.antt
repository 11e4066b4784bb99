-- What a call says and leaves, by the rule of the entry that it calls. Assumes nothing.
use Rattle.std.specs.Prelude.{cond, List, ℕ, Float}
use Rattle.rules.specs.Refusals.{Code}
use Rattle.rules.specs.DescentCall.{DescentLent, DescentLeft, BeginOutcome, IterateSaid, IterateOutcome, begin_rule, iterate_rule}
use Rattle.refusals.specs.Junk.{rising, next_word, next_float, junk_word, junk_float}
use Rattle.descent.specs.Descent.{lent}
use Rattle.refusals_descent.specs.declared.call.Call.{Call}

-- A begin answers no counts.
abbrev pub uncounted : Code → IterateSaid
uncounted code = record { code = code; cost = 0; new = 0 }

abbrev pub of_begin : BeginOutcome → IterateOutcome
of_begin o = record { said = uncounted o.said; left = o.left }

module _ (c : Call) (lanes : List Float) (draws us : List ℕ) (fs : List Float) where
  abbrev pub lent_to : List ℕ → List Float → DescentLent
  lent_to su sf = lent c.dimension c.n lanes c.k c.s draws us fs su sf

  unfoldable pub outcome_of : List ℕ → List Float → IterateOutcome
  outcome_of su sf = cond c.begins (of_begin (begin_rule (lent_to su sf))) (iterate_rule (lent_to su sf))

  -- What is left where scratch is full of junk
  unfoldable pub left_of : ℕ → ℕ → DescentLeft
  left_of su sf = (outcome_of (rising next_word junk_word su) (rising next_float junk_float sf)).left
