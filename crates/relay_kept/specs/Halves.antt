-- The half of a job that a move is a step of: the first, or where that is done the second. Assumes nothing.
use Rattle.std.specs.Prelude.{Bool, true, false, cond, List, ◌++◌, ℕ, suc, ◌+◌, eqb, take, drop, set}
use Rattle.rules.specs.declared.Neighbor.{Neighbor}
use Rattle.rules.specs.Descent.{list_at}
use Rattle.rules.specs.Relay.{Stage, Job, Relay, is_popped, next_stage, next_list, equal_nodes, for_u, for_v, job_at}
use Rattle.rules.specs.RelayPlaces.{pending}

-- whose list the half is about, the entry that it offers, and how far it has come
abbrev pub target : Bool → Job → ℕ
target false j = j.u
target true j = j.v

abbrev pub entry_of : Bool → Job → Neighbor
entry_of false j = for_u j
entry_of true j = for_v j

abbrev pub stage_of : Bool → Job → Stage
stage_of false j = j.first
stage_of true j = j.second

-- the job with that half at another stage
abbrev pub with_stage : Bool → Job → Stage → Job
with_stage false j s = record { u = j.u; v = j.v; distance = j.distance; first = s; second = j.second }
with_stage true j s = record { u = j.u; v = j.v; distance = j.distance; first = j.first; second = s }

-- the half that job i is at
abbrev pub half_at : Relay → ℕ → Bool
half_at r i = is_popped (job_at r i).first

-- the list that a step of a half finds
abbrev pub found : Relay → ℕ → Bool → List Neighbor
found r i b = list_at r.lists (target b (job_at r i))

-- job i one step further, and the relay
abbrev pub job_after : ℕ → Relay → ℕ → Bool → Job
job_after k r i b =
    with_stage b (job_at r i) (next_stage k (equal_nodes (job_at r i)) (entry_of b (job_at r i)) (found r i b) (stage_of b (job_at r i)))

abbrev pub relay_after : ℕ → Relay → ℕ → Bool → Relay
relay_after k r i b =
    record {
      lists = set r.lists (target b (job_at r i)) (next_list (entry_of b (job_at r i)) (found r i b) (stage_of b (job_at r i)));
      jobs = set r.jobs i (job_after k r i b);
    }

-- all but one of a list
abbrev pub others : {A : Type 0} → ℕ → List A → List A
others i xs = take i xs ++ drop (suc i) xs

-- what one job has pushed to w's list and not yet popped; and its other half alone
abbrev pub pending_job : ℕ → Job → ℕ
pending_job w j = cond (eqb j.u w) (pending j.first) 0 + cond (eqb j.v w) (pending j.second) 0

abbrev pub pending_beside : ℕ → Bool → Job → ℕ
pending_beside w false j = cond (eqb j.v w) (pending j.second) 0
pending_beside w true j = cond (eqb j.u w) (pending j.first) 0
