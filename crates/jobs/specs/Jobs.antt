-- What is tested of the words of a job, and what is counted of it. Assumes nothing.
use Rattle.std.specs.Prelude.{◌≡◌, Bool, cond, ◌&&◌, List, ℕ, ◌+◌, ◌≤◌, eqb, take, get_or, set, Float}
use Rattle.std.specs.Float.{binary32}
use Rattle.std.specs.Float.Ieee.{to_bits}
use Rattle.rules.specs.Distance.{fit}
use Rattle.rules.specs.Relay.{Job, taken_of, longer_of, bit}
use Rattle.rules.specs.Places.{same_words}
use Rattle.rules.specs.RelayPlaces.{job_words, job_in, stage_in, stage_formed, job_formed, pending}

-- a half's two words are what its stage leaves, and the stage is well formed
unfoldable pub half_formed : Bool → ℕ → ℕ → ℕ → Bool
half_formed equal steps taken longer =
    let s = stage_in steps (eqb taken 1) (eqb longer 1) in
    eqb taken (bit (taken_of s)) && (eqb longer (bit (longer_of s)) && stage_formed equal s)

-- "fit distances (0.0 if u = v)"
unfoldable pub distance_formed : Bool → Float → Bool
distance_formed equal x = cond equal (eqb (to_bits binary32 x) 0) (fit x)

-- the words are those of the job that is read from them, and it is well formed
unfoldable pub job_test : ℕ → List ℕ → Float → Bool
job_test n ws x = same_words (take 15 ws) (job_words (job_in ws x)) && job_formed n (job_in ws x)

pub record PendingHalf (node w steps taken r : ℕ) : Type 0 where
  pub is : (longer : Bool) → r ≡ cond (eqb node w) (pending (stage_in steps (eqb taken 1) longer)) 0
  pub few : r ≤ 1

-- what a job adds to the length of node w's list
abbrev pub pending_by : ℕ → Job → ℕ
pending_by w j = cond (eqb j.u w) (pending j.first) 0 + cond (eqb j.v w) (pending j.second) 0

pub record PendingJob (ws : List ℕ) (w r : ℕ) : Type 0 where
  pub is : (x : Float) → r ≡ pending_by w (job_in ws x)
  pub few : r ≤ 2

-- the words of a job after a step of the half whose words are at half
abbrev pub kept_words : List ℕ → ℕ → ℕ → ℕ → List ℕ
kept_words ws half taken longer = set (set (set ws 2 (get_or ws 2 0 + 1)) half taken) (half + 1) longer
