-- What a step of a job leaves in the state. Assumes nothing.
use Rattle.std.specs.Prelude.{◌≡◌, Bool, ◌||◌, List, ℕ, ◌+◌, ◌*◌, ◌≤◌, ◌<◌, eqb, leb, length, take, drop, get_or, set, Float}
use borrow.Rule.Slice.PartMut.{put_mid}
use Rattle.std.specs.Float.{nan}
use Rattle.rules.specs.declared.Neighbor.{Neighbor}
use Rattle.rules.specs.Loops.{part}
use Rattle.rules.specs.Distance.{zero32}
use Rattle.rules.specs.Lists.{neighbor, entries, nodes_of, distances_of}
use Rattle.rules.specs.Relay.{Stage, taken_of, longer_of, bit, next_stage, next_list, moved}
use Rattle.rules.specs.Places.{padded}
use Rattle.rules.specs.RelayPlaces.{stage_in, relay_in, relay_state, relay_state_floats}
use Rattle.relay_state.specs.State.{Sized}
use Rattle.jobs.specs.Jobs.{kept_words}
use Rattle.halves.specs.Halves.{Roomed}

-- node w's list in the state
abbrev pub list_in : ℕ → ℕ → List ℕ → List Float → ℕ → List Neighbor
list_in n k us fs w = entries (get_or us (n * (k + 64) + w) 0) (part (k + 64) w us) (part (k + 64) w fs)

-- a list of k entries and more, in its room
pub record Room (n k : ℕ) (us : List ℕ) (fs : List Float) (w : ℕ) : Type 0 where
  pub below : w < n
  pub some : k ≤ get_or us (n * (k + 64) + w) 0
  pub room : Roomed (part (k + 64) w us) (part (k + 64) w fs) (get_or us (n * (k + 64) + w) 0)

-- the list put in its room, and its length
abbrev pub words_with : ℕ → ℕ → ℕ → List Neighbor → List ℕ → List ℕ
words_with n k w l us = set (put_mid (w * (k + 64)) (k + 64) us (padded (k + 64) 0 (nodes_of l))) (n * (k + 64) + w) (length l)

abbrev pub floats_with : ℕ → ℕ → List Neighbor → List Float → List Float
floats_with k w l fs = put_mid (w * (k + 64)) (k + 64) fs (padded (k + 64) zero32 (distances_of l))

pub record ListStepped (n k : ℕ) (us : List ℕ) (fs : List Float) (w : ℕ) (e : Neighbor) (s : Stage) (us' : List ℕ) (fs' : List Float) : Type 0 where
  pub few : length (next_list e (list_in n k us fs w) s) ≤ k + 64
  pub words : us' ≡ words_with n k w (next_list e (list_in n k us fs w) s) us
  pub floats : fs' ≡ floats_with k w (next_list e (list_in n k us fs w) s) fs

-- where job i's words begin
abbrev pub job_place : ℕ → ℕ → ℕ → ℕ
job_place n k i = n * (k + 64) + n + 1 + 15 * i

-- the stage of the half whose words are at half
abbrev pub half_stage : ℕ → ℕ → List ℕ → ℕ → ℕ → ℕ → Stage
half_stage n k us i half steps = stage_in steps (eqb (get_or us (job_place n k i + half) 0) 1) (eqb (get_or us (job_place n k i + half + 1) 0) 1)

pub record HalfReady (n k : ℕ) (us : List ℕ) (fs : List Float) (i w half steps : ℕ) : Type 0 where
  pub sized : Sized n k us fs
  pub room : Room n k us fs w
  pub few : i < 64
  pub place : half ≤ 5
  pub within : steps ≤ 3
  pub taken : get_or us (job_place n k i + half) 0 ≤ 1
  pub longer : get_or us (job_place n k i + half + 1) 0 ≤ 1
  pub done : get_or us (job_place n k i + 2) 0 ≤ 7
  pub free : steps ≡ 1 → get_or us (job_place n k i + half) 0 ≡ 1 → get_or us (n * (k + 64) + w) 0 < k + 64

-- the entry that job i offers
abbrev pub offered : ℕ → ℕ → List Float → ℕ → ℕ → Neighbor
offered n k fs i other = neighbor other (get_or fs (n * (k + 64) + i) nan)

-- the words with the list, and job i's words as the step leaves them
abbrev pub words_after : ℕ → ℕ → List ℕ → ℕ → ℕ → ℕ → List Neighbor → Stage → List ℕ
words_after n k us i w half l s =
    put_mid (job_place n k i) 15 (words_with n k w l us)
    (kept_words (take 15 (drop (job_place n k i) (words_with n k w l us))) half (bit (taken_of s)) (bit (longer_of s)))

pub record HalfMoved (n k : ℕ) (us : List ℕ) (fs : List Float) (i w other half steps : ℕ) (us' : List ℕ) (fs' : List Float) : Type 0 where
  pub few : length (next_list (offered n k fs i other) (list_in n k us fs w) (half_stage n k us i half steps)) ≤ k + 64
  pub words : let e = offered n k fs i other in let l = list_in n k us fs w in let s = half_stage n k us i half steps in us' ≡ words_after n k us i w half (next_list e l s) (next_stage k (eqb w other) e l s)
  pub floats : fs' ≡ floats_with k w (next_list (offered n k fs i other) (list_in n k us fs w) (half_stage n k us i half steps)) fs

-- a move
pub record Stepped (n k : ℕ) (us : List ℕ) (fs : List Float) (i : ℕ) (us' : List ℕ) (fs' : List Float) : Type 0 where
  pub words : us' ≡ relay_state k (moved k (relay_in n k us fs) i)
  pub floats : fs' ≡ relay_state_floats k (moved k (relay_in n k us fs) i)

-- an absent job, or one whose word says that eight steps are done
unfoldable pub no_step : ℕ → ℕ → List ℕ → ℕ → Bool
no_step n k us i = leb (get_or us (n * (k + 64) + n) 0) i || eqb (get_or us (job_place n k i + 2) 0) 8
