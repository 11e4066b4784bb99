-- The words that the laws of the relay's calls are said in. Assumes nothing.
use Rattle.std.specs.Prelude.{◌≡◌, false, ℕ}
use Rattle.rules.specs.Numbers.{most, most_taught, outside}
use Rattle.rules.specs.Relay.{Relay}
use Rattle.rules.specs.RelayPlaces.{relay_state, relay_state_floats}
use Rattle.rules.specs.RelayCall.{MoveLent, MoveOutcome}
use Rattle.rules.specs.Refusals.{no_refusal}

-- rows 2 and 4 pass
pub record Sizes (n k : ℕ) : Type 0 where
  pub nodes : outside 2 most_taught n ≡ false
  pub size : outside 1 most k ≡ false

-- a move of job i, lent the state of r
abbrev pub moving : ℕ → ℕ → Relay → ℕ → MoveLent
moving n k r i = record { n = n; k = k; job = i; state_u = relay_state k r; state_f = relay_state_floats k r }

-- a success that leaves the state of r
abbrev pub leaves : ℕ → Relay → MoveOutcome
leaves k r = record { said = no_refusal; state_u = relay_state k r; state_f = relay_state_floats k r }
