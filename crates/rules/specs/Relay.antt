-- "A relay": opening, the eight steps of a job, its reports. Assumes nothing.
use Rattle.std.specs.Prelude.{Bool, true, false, not, ◌&&◌, cond, List, [], ◌∷◌, ℕ, eqb, length, get_or, set, Float}
use Rattle.rules.specs.declared.Neighbor.{Neighbor}
use Rattle.rules.specs.Loops.{each, first_from}
use Rattle.rules.specs.Distance.{zero32}
use Rattle.rules.specs.Lists.{neighbor}
use Rattle.rules.specs.Refusals.{job_count, job_u, job_v}
use Rattle.rules.specs.Build.{Between}
use Rattle.rules.specs.Offers.{look, push, measure, pop}
use Rattle.rules.specs.Descent.{list_at}

-- how far an offer has come; `taken` is its report, `longer` what its measure said
pub data Stage : Type 0 where
  fresh : Stage
  looked : (taken : Bool) → Stage
  pushed : (taken : Bool) → Stage
  measured : (taken longer : Bool) → Stage
  popped : (taken longer : Bool) → Stage

-- "A job offers v to u's list, then u to v's, four steps each"; "distances are stored at opening"
pub record Job : Type 0 where
  pub u : ℕ
  pub v : ℕ
  pub distance : Float
  pub first : Stage
  pub second : Stage

pub record Relay : Type 0 where
  pub lists : List (List Neighbor)
  pub jobs : List Job

-- ---- the steps of one offer, of e to the list l

unfoldable pub steps_of : Stage → ℕ
steps_of fresh = 0
steps_of (looked taken) = 1
steps_of (pushed taken) = 2
steps_of (measured taken longer) = 3
steps_of (popped taken longer) = 4

unfoldable pub is_popped : Stage → Bool
is_popped fresh = false
is_popped (looked taken) = false
is_popped (pushed taken) = false
is_popped (measured taken longer) = false
is_popped (popped taken longer) = true

-- "Each half reports whether it was taken up"
unfoldable pub taken_of : Stage → Bool
taken_of fresh = false
taken_of (looked taken) = taken
taken_of (pushed taken) = taken
taken_of (measured taken longer) = taken
taken_of (popped taken longer) = taken

unfoldable pub longer_of : Stage → Bool
longer_of fresh = false
longer_of (looked taken) = false
longer_of (pushed taken) = false
longer_of (measured taken longer) = longer
longer_of (popped taken longer) = longer

-- "look ..; push in order; measure whether longer than k; pop the last if so": what the job keeps.
-- "A refused offer's later steps, and all eight of a job with u = v, do nothing."
unfoldable pub next_stage : ℕ → Bool → Neighbor → List Neighbor → Stage → Stage
next_stage k equal e l fresh = looked (not equal && look e l)
next_stage k equal e l (looked taken) = pushed taken
next_stage k equal e l (pushed taken) = measured taken (taken && measure k l)
next_stage k equal e l (measured taken longer) = popped taken longer
next_stage k equal e l (popped taken longer) = popped taken longer

-- and what becomes of the list
unfoldable pub next_list : Neighbor → List Neighbor → Stage → List Neighbor
next_list e l fresh = l
next_list e l (looked taken) = cond taken (push e l) l
next_list e l (pushed taken) = l
next_list e l (measured taken longer) = cond longer (pop l) l
next_list e l (popped taken longer) = l

-- ---- a move

abbrev pub equal_nodes : Job → Bool
equal_nodes j = eqb j.u j.v

abbrev pub is_finished : Job → Bool
is_finished j = is_popped j.first && is_popped j.second

-- v for u's list, and u for v's
abbrev pub for_u : Job → Neighbor
for_u j = neighbor j.v j.distance

abbrev pub for_v : Job → Neighbor
for_v j = neighbor j.u j.distance

unfoldable pub move_first : ℕ → Relay → ℕ → Job → Relay
move_first k r i j =
    let l = list_at r.lists j.u in
    record {
      lists = set r.lists j.u (next_list (for_u j) l j.first);
      jobs = set r.jobs i
          (record {
            u = j.u;
            v = j.v;
            distance = j.distance;
            first = next_stage k (equal_nodes j) (for_u j) l j.first;
            second = j.second;
          });
    }

unfoldable pub move_second : ℕ → Relay → ℕ → Job → Relay
move_second k r i j =
    let l = list_at r.lists j.v in
    record {
      lists = set r.lists j.v (next_list (for_v j) l j.second);
      jobs = set r.jobs i
          (record {
            u = j.u;
            v = j.v;
            distance = j.distance;
            first = j.first;
            second = next_stage k (equal_nodes j) (for_v j) l j.second;
          });
    }

-- what stands for a job that is absent
abbrev pub no_job : Job
no_job = record { u = 0; v = 0; distance = zero32; first = popped false false; second = popped false false }

abbrev pub job_at : Relay → ℕ → Job
job_at r i = get_or r.jobs i no_job

-- "moved one step for a named job at a call": the first half, and when it is done the second
unfoldable pub moved : ℕ → Relay → ℕ → Relay
moved k r i = cond (is_popped (job_at r i).first) (move_second k r i (job_at r i)) (move_first k r i (job_at r i))

-- "that job, or the lowest unfinished"
unfoldable pub lowest_unfinished : Relay → ℕ
lowest_unfinished r = first_from (λ (i : ℕ). not (is_finished (job_at r i))) 0 (length r.jobs)

-- ---- opening

-- "distances are stored at opening"; "fit distances (0.0 if u = v)"
unfoldable pub job_of : Between → List ℕ → ℕ → Job
job_of d jobs i =
    let u = job_u jobs i in
    let v = job_v jobs i in
    record { u = u; v = v; distance = cond (eqb u v) zero32 (d u v); first = fresh; second = fresh }

-- "A relay is opened on lists (nk u32, nk f32) and jobs (u, v)"
unfoldable pub opened : Between → List (List Neighbor) → List ℕ → Relay
opened d lists jobs = record { lists = lists; jobs = each (λ (i : ℕ). job_of d jobs i ∷ []) (job_count jobs) }

-- ---- closing

abbrev pub bit : Bool → ℕ
bit b = cond b 1 0

-- "each job's two reports (1 or 0) .. two a job"
unfoldable pub reports_of : List Job → List ℕ
reports_of [] = []
reports_of (j ∷ js) = bit (taken_of j.first) ∷ bit (taken_of j.second) ∷ reports_of js
