-- What the entry `open` is lent, and what it leaves. Assumes nothing.
use Rattle.std.specs.Prelude.{◌≡◌, List, [], ◌∷◌, ◌++◌, ℕ, ◌+◌, ◌*◌, ◌≤◌, ◌<◌, length, take, replicate, Float}
use Rattle.rules.specs.Loops.{each, part}
use Rattle.rules.specs.Distance.{zero32}
use Rattle.rules.specs.Refusals.{job_count, job_u, job_v}
use Rattle.rules.specs.Build.{Between}
use Rattle.rules.specs.Relay.{Job, Relay, job_of}
use Rattle.rules.specs.Places.{padded}
use Rattle.rules.specs.RelayPlaces.{jobs_words, jobs_floats, relay_state, relay_state_floats}

-- jobs row 9 passes
pub record JobsIn (n : ℕ) (jobs : List ℕ) : Type 0 where
  pub few : job_count jobs ≤ 64
  pub us : (i : ℕ) → i < job_count jobs → job_u jobs i < n
  pub vs : (i : ℕ) → i < job_count jobs → job_v jobs i < n

-- the first i jobs, with no step done
abbrev pub first_jobs : Between → List ℕ → ℕ → List Job
first_jobs d jobs i = each (λ (j : ℕ). job_of d jobs j ∷ []) i

-- the number of jobs, and the first i of them, zeros behind
pub record JobsWritten (d : Between) (jobs : List ℕ) (i : ℕ) (us : List ℕ) (fs : List Float) : Type 0 where
  pub words : us ≡ padded 1024 0 (job_count jobs ∷ jobs_words (first_jobs d jobs i))
  pub floats : fs ≡ padded 64 zero32 (jobs_floats (first_jobs d jobs i))

-- the rooms of the lists' nodes and the lengths in front
pub record ListsPut (n k : ℕ) (nodes us us' : List ℕ) : Type 0 where
  pub front : take (n * (k + 64) + n) us' ≡ each (λ (w : ℕ). padded (k + 64) 0 (part k w nodes)) n ++ replicate n k
  pub long : length us' ≡ length us

-- the rooms of the lists' distances in front
pub record DistsPut (n k : ℕ) (distances fs fs' : List Float) : Type 0 where
  pub front : take (n * (k + 64)) fs' ≡ each (λ (w : ℕ). padded (k + 64) zero32 (part k w distances)) n
  pub long : length fs' ≡ length fs

-- the encoding of a relay
pub record StateWritten (k : ℕ) (r : Relay) (us : List ℕ) (fs : List Float) : Type 0 where
  pub words_are : us ≡ relay_state k r
  pub floats_are : fs ≡ relay_state_floats k r
