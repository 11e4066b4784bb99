-- A whole relay by the rules of its calls: opened, moved in an order and closed. Assumes nothing.
use Rattle.std.specs.Prelude.{ℕ, ◌+◌, ◌%◌, ◌^◌, min, cond, List, [], ◌∷◌, take, replicate, ◌==◌, from_bits, Float}
use Rattle.std.specs.Float.{binary32}
use Rattle.rules.specs.Refusals.{Code}
use Rattle.rules.specs.RelayCall.{OpenOutcome, MoveOutcome, CloseOutcome, open_rule, move_rule, close_rule}
use Rattle.relays.specs.Places.{words_long, floats_long}
use Rattle.relay_opening.specs.Opening as opening
use Rattle.relay_move.specs.Move as moving
use Rattle.relay_close.specs.Close as closing

-- What lent places hold before a call; the float is 1.5
abbrev pub junk_word : ℕ
junk_word = 0xCDCDCDCD

abbrev pub junk_float : Float
junk_float = from_bits binary32 0x3FC00000

-- 1 for a refusal, and 0 for an answer that is none
unfoldable pub refused_in : Code → ℕ
refused_in said = cond (said.number == 0) 0 1

-- Refusals are counted modulo 2^32.
abbrev pub sum : ℕ → ℕ → ℕ
sum a b = (a + b) % 2 ^ 32

-- A state, and how many calls were refused on the way to it
pub record Ran : Type 0 where
  pub words : List ℕ
  pub floats : List Float
  pub refused : ℕ

abbrev pub ran : List ℕ → List Float → ℕ → Ran
ran words floats refused = record { words = words; floats = floats; refused = refused }

-- What a whole relay leaves, and how many of its calls were refused
pub record Relayed : Type 0 where
  pub refused : ℕ
  pub nodes : List ℕ
  pub distances : List Float
  pub reports : List ℕ

abbrev pub relayed : ℕ → List ℕ → List Float → List ℕ → Relayed
relayed refused nodes distances reports =
    record { refused = refused; nodes = nodes; distances = distances; reports = reports }

abbrev pub of_open : OpenOutcome → Ran
of_open o = ran o.state_u o.state_f (refused_in o.said)

abbrev pub of_move : ℕ → MoveOutcome → Ran
of_move refused o = ran o.state_u o.state_f (sum refused (refused_in o.said))

abbrev pub of_close : ℕ → ℕ → CloseOutcome → Relayed
of_close opening moving o =
    relayed (sum opening (sum moving (refused_in o.said))) o.nodes o.distances o.reports

module _ (n k : ℕ) where
  -- Lanes of one dimension, and scratch full of junk
  unfoldable pub opened_of : List Float → List ℕ → List Float → List ℕ → List ℕ → List Float → Ran
  opened_of lanes nodes distances jobs words floats =
      of_open (open_rule (opening.lent 1 n lanes k nodes distances jobs words floats (replicate 8192 junk_word) (replicate 8192 junk_float)))

  unfoldable pub step : ℕ → Ran → Ran
  step job s = of_move s.refused (move_rule (moving.lent n k job s.words s.floats))

  -- One move after the other
  unfoldable pub moved_by : List ℕ → Ran → Ran
  moved_by [] s = s
  moved_by (job ∷ order) s = moved_by order (step job s)

  unfoldable pub closed_from : ℕ → Ran → List ℕ → List Float → List ℕ → Relayed
  closed_from opening s nodes distances reports =
      of_close opening s.refused (close_rule (closing.lent n k s.words s.floats nodes distances reports))

  -- In a state's places, whatever they hold before
  unfoldable pub relayed_in : List ℕ → List Float → List Float → List ℕ → List ℕ → List ℕ → List Float → List ℕ → Relayed
  relayed_in words floats lanes jobs order nodes distances reports =
      let o = opened_of lanes nodes distances jobs words floats in
      closed_from o.refused (moved_by order (ran o.words o.floats 0)) nodes distances reports

  -- As many places of a state as it has, of those there are
  unfoldable pub whole_of : List Float → List ℕ → List ℕ → List ℕ → List Float → List ℕ → Relayed
  whole_of =
      relayed_in (take (min (words_long n k) 2048) (replicate 2048 junk_word)) (take (min (floats_long n k) 1024) (replicate 1024 junk_float))
