-- What is tested of a relay's state, part by part. Assumes nothing.
use Rattle.std.specs.Prelude.{◌≡◌, Bool, not, ◌&&◌, List, [], ◌∷◌, map, ℕ, ◌+◌, ◌*◌, ◌≤◌, eqb, leb, length, drop, get_or, Float}
use Rattle.std.specs.Float.{binary32}
use Rattle.std.specs.Float.Ieee.{to_bits}
use Rattle.rules.specs.Loops.{each, part}
use Rattle.rules.specs.Distance.{zero32}
use Rattle.rules.specs.Numbers.{outside}
use Rattle.rules.specs.Lists.{entries}
use Rattle.rules.specs.Calls.{relay_words, relay_floats}
use Rattle.rules.specs.Offers.{list_formed}
use Rattle.rules.specs.Relay.{Job}
use Rattle.rules.specs.RelayPlaces.{job_in, relay_in, pending_at}
use Rattle.zeros.specs.Zeros.{zeros, all_below}
use Rattle.jobs.specs.Jobs.{job_test}

-- what rows 2, 4 and 6 leave
pub record Sized (n k : ℕ) (us : List ℕ) (fs : List Float) : Type 0 where
  pub nodes : n ≤ 1024
  pub some : 1 ≤ k
  pub few : k ≤ 64
  pub words : length us ≡ relay_words n k
  pub floats : length fs ≡ relay_floats n k

-- the jobs of 1,024 words and 64 distances: their number, each, and zeros behind them
unfoldable pub jobs_test : ℕ → List ℕ → List Float → Bool
jobs_test n js xs =
    let count = get_or js 0 0 in
    not (outside 1 64 count)
    && (all_below (λ (i : ℕ). job_test n (drop (1 + 15 * i) js) (get_or xs i zero32)) count
    && (zeros (drop (1 + 15 * count) js) && zeros (map (to_bits binary32) (drop count xs))))

-- the first count jobs, whatever their distances
abbrev pub jobs_of : List ℕ → (ℕ → Float) → ℕ → List Job
jobs_of js x count = each (λ (i : ℕ). job_in (drop (1 + 15 * i) js) (x i) ∷ []) count

pub record PendingAll (js : List ℕ) (count w r : ℕ) : Type 0 where
  pub is : (x : ℕ → Float) → r ≡ pending_at w (jobs_of js x count)
  pub few : r ≤ 2 * count

-- a list in its room: as long as wanted, zeros behind it, and well formed
unfoldable pub room_test : ℕ → ℕ → ℕ → List ℕ → List Float → Bool
room_test n want len ns ds =
    eqb len want
    && (leb len (length ns)
    && (zeros (drop len ns) && (zeros (map (to_bits binary32) (drop len ds)) && list_formed n (entries len ns ds))))

-- node w's list
unfoldable pub room_at : ℕ → ℕ → List ℕ → List Float → ℕ → Bool
room_at n k us fs w =
    room_test n (k + pending_at w (relay_in n k us fs).jobs) (get_or us (n * (k + 64) + w) 0) (part (k + 64) w us) (part (k + 64) w fs)
