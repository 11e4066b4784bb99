-- docs/LAYOUT.md, relay state: the encoding of a relay, and its reading back. Assumes nothing.
use Rattle.std.specs.Prelude.{Bool, true, cond, not, ◌&&◌, List, [], ◌∷◌, ◌++◌, ℕ, zero, suc, ◌+◌, ◌-◌, ◌*◌, min, eqb, ltb, length, drop, get_or, Float}
use Rattle.std.specs.Float.{binary32}
use Rattle.std.specs.Float.Ieee.{to_bits}
use Rattle.rules.specs.declared.Neighbor.{Neighbor}
use Rattle.rules.specs.Loops.{each, part}
use Rattle.rules.specs.Distance.{zero32, fit}
use Rattle.rules.specs.Numbers.{most, outside}
use Rattle.rules.specs.Lists.{entries, nodes_of, distances_of}
use Rattle.rules.specs.Offers.{lists_formed}
use Rattle.rules.specs.Relay.{Stage, fresh, looked, pushed, measured, popped, steps_of, taken_of, longer_of, Job, Relay, bit, equal_nodes}
use Rattle.rules.specs.Places.{padded, same_words, same_floats}

-- ---- relay state: k + 64 places a list; n lengths; the number of jobs; 15 words a job; zeros up to 1,024

unfoldable pub room_words : ℕ → List (List Neighbor) → List ℕ
room_words room [] = []
room_words room (l ∷ ls) = padded room 0 (nodes_of l) ++ room_words room ls

unfoldable pub room_floats : ℕ → List (List Neighbor) → List Float
room_floats room [] = []
room_floats room (l ∷ ls) = padded room zero32 (distances_of l) ++ room_floats room ls

unfoldable pub lengths_of : List (List Neighbor) → List ℕ
lengths_of [] = []
lengths_of (l ∷ ls) = length l ∷ lengths_of ls

-- u, v, the steps done, and for each half its report and what its measure said
unfoldable pub job_words : Job → List ℕ
job_words j =
    padded 15 0
    (j.u ∷ j.v ∷ (steps_of j.first + steps_of j.second) ∷ bit (taken_of j.first) ∷ bit (longer_of j.first)
    ∷ bit (taken_of j.second) ∷ bit (longer_of j.second) ∷ [])

unfoldable pub jobs_words : List Job → List ℕ
jobs_words [] = []
jobs_words (j ∷ js) = job_words j ++ jobs_words js

unfoldable pub jobs_floats : List Job → List Float
jobs_floats [] = []
jobs_floats (j ∷ js) = j.distance ∷ jobs_floats js

unfoldable pub relay_state : ℕ → Relay → List ℕ
relay_state k r = room_words (k + 64) r.lists ++ (lengths_of r.lists ++ padded 1024 0 (length r.jobs ∷ jobs_words r.jobs))

unfoldable pub relay_state_floats : ℕ → Relay → List Float
relay_state_floats k r = room_floats (k + 64) r.lists ++ padded 64 zero32 (jobs_floats r.jobs)

unfoldable pub stage_in : ℕ → Bool → Bool → Stage
stage_in zero taken longer = fresh
stage_in (suc zero) taken longer = looked taken
stage_in (suc (suc zero)) taken longer = pushed taken
stage_in (suc (suc (suc zero))) taken longer = measured taken longer
stage_in (suc (suc (suc (suc steps)))) taken longer = popped taken longer

unfoldable pub job_in : List ℕ → Float → Job
job_in us x =
    record {
      u = get_or us 0 0;
      v = get_or us 1 0;
      distance = x;
      first = stage_in (get_or us 2 0) (eqb (get_or us 3 0) 1) (eqb (get_or us 4 0) 1);
      second = stage_in (get_or us 2 0 - 4) (eqb (get_or us 5 0) 1) (eqb (get_or us 6 0) 1);
    }

unfoldable pub relay_in : ℕ → ℕ → List ℕ → List Float → Relay
relay_in n k us fs =
    record {
      lists =
          each
          (λ (w : ℕ). entries (get_or us (n * (k + 64) + w) 0) (part (k + 64) w us) (part (k + 64) w fs) ∷ []) n;
      jobs =
          each
          (λ (i : ℕ). job_in (drop (n * (k + 65) + 1 + 15 * i) us) (get_or fs (n * (k + 64) + i) zero32) ∷ [])
          (min most (get_or us (n * (k + 65)) 0));
    }

-- "no taken report .. if u = v, a yes at each measure after a push"
unfoldable pub stage_formed : Bool → Stage → Bool
stage_formed equal fresh = true
stage_formed equal (looked taken) = not (equal && taken)
stage_formed equal (pushed taken) = not (equal && taken)
stage_formed equal (measured taken longer) = not (equal && taken) && eqb (bit taken) (bit longer)
stage_formed equal (popped taken longer) = not (equal && taken) && eqb (bit taken) (bit longer)

-- "jobs row 9 passes, 0 to 8 steps done in each, fit distances (0.0 if u = v)"
unfoldable pub job_formed : ℕ → Job → Bool
job_formed n j =
    (ltb j.u n && ltb j.v n)
    && (cond (equal_nodes j) (eqb (to_bits binary32 j.distance) 0) (fit j.distance)
    && (stage_formed (equal_nodes j) j.first && stage_formed (equal_nodes j) j.second))

unfoldable pub jobs_formed : ℕ → List Job → Bool
jobs_formed n [] = true
jobs_formed n (j ∷ js) = job_formed n j && jobs_formed n js

-- a half that has pushed and not yet popped
unfoldable pub pending : Stage → ℕ
pending fresh = 0
pending (looked taken) = 0
pending (pushed taken) = bit taken
pending (measured taken longer) = bit taken
pending (popped taken longer) = 0

unfoldable pub pending_at : ℕ → List Job → ℕ
pending_at w [] = 0
pending_at w (j ∷ js) = cond (eqb j.u w) (pending j.first) 0 + (cond (eqb j.v w) (pending j.second) 0 + pending_at w js)

-- "each list at k plus the jobs that have pushed to it and not yet popped"
unfoldable pub lengths_formed : ℕ → List Job → ℕ → List (List Neighbor) → Bool
lengths_formed k jobs w [] = true
lengths_formed k jobs w (l ∷ ls) = eqb (length l) (k + pending_at w jobs) && lengths_formed k jobs (suc w) ls

unfoldable pub relay_formed : ℕ → ℕ → List ℕ → List Float → Bool
relay_formed n k us fs =
    let r = relay_in n k us fs in
    same_words us (relay_state k r)
    && (same_floats fs (relay_state_floats k r)
    && (lists_formed n r.lists
    && (lengths_formed k r.jobs 0 r.lists && (not (outside 1 most (length r.jobs)) && jobs_formed n r.jobs))))
