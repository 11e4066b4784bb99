-- What the entry `close` is lent, and what it leaves. Assumes nothing.
use Rattle.std.specs.Prelude.{◌≡◌, Bool, true, not, List, ℕ, ◌+◌, ◌<◌, eqb, length, get_or, Float}
use Rattle.rules.specs.declared.Neighbor.{Neighbor}
use Rattle.rules.specs.Answers.{Answer}
use Rattle.rules.specs.Refusals.{said_of}
use Rattle.rules.specs.Relay.{is_finished, job_at}
use Rattle.rules.specs.Places.{list_words, list_floats}
use Rattle.rules.specs.RelayPlaces.{relay_in, relay_formed}
use Rattle.rules.specs.RelayCall.{CloseLent, CloseOutcome, close_rule}
use Rattle.encoded.specs.Words.{Binary32}
use Rattle.relay_state.specs.State.{Sized}
use Rattle.relay_move.specs.Moves.{job_place}

abbrev pub lent : ℕ → ℕ → List ℕ → List Float → List ℕ → List Float → List ℕ → CloseLent
lent n k us fs nodes distances reports =
    record { n = n; k = k; state_u = us; state_f = fs; nodes = nodes; distances = distances; reports = reports }

-- a job whose word says that less than eight steps are done
abbrev pub steps_left : ℕ → ℕ → List ℕ → ℕ → Bool
steps_left n k us i = not (eqb (get_or us (job_place n k i + 2) 0) 8)

-- a well-formed state of which every job is finished
pub record Done (n k : ℕ) (us : List ℕ) (fs : List Float) : Type 0 where
  pub sized : Sized n k us fs
  pub values : Binary32 fs
  pub formed : relay_formed n k us fs ≡ true
  pub finished : (i : ℕ) → i < length (relay_in n k us fs).jobs → is_finished (job_at (relay_in n k us fs) i) ≡ true

pub record ListsWritten (ls : List (List Neighbor)) (nodes : List ℕ) (distances : List Float) : Type 0 where
  pub nodes_are : nodes ≡ list_words ls
  pub distances_are : distances ≡ list_floats ls

abbrev pub close_left : Answer → List ℕ → List Float → List ℕ → CloseOutcome
close_left r nodes distances reports = record { said = said_of r; nodes = nodes; distances = distances; reports = reports }

-- what a close leaves is what the rulebook says of what it was lent
pub record Closed (l : CloseLent) (r : Answer) (nodes : List ℕ) (distances : List Float) (reports : List ℕ) : Type 0 where
  pub whole : close_left r nodes distances reports ≡ close_rule l
