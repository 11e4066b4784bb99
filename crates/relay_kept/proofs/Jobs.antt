-- Well-formed jobs, what they have pushed and not yet popped, and one of them a step further. Assumes nothing.
use mathlib.Core.Path.{◌≡◌, refl, sym, ap, ◌∙◌}
use mathlib.Core.Bool.{Bool, true, false, ◌&&◌, cond, true≢false}
use mathlib.Core.List.{List, [], ◌∷◌}
use Prim.Native.Nat.{ℕ, zero, suc, ◌+◌, ◌≤◌, ◌<◌}
use native.Mathlib.Nat.{le_of_suc-le-suc, not-suc-le-zero}
use native.Mathlib.Omega.{arith}
use lib.Dec.{T, eqb, ltb}
use lib.ListN.{length, get_or, set}
use lib.Seq.{take-set-le, drop-set-lt}
use lib.Ieee.{binary32, to_bits, fits}
use borrow.Author.Tests.{eqb-true, ltb-true, lt-ltb}
use Rattle.rules.specs.Distance.{fit}
use Rattle.rules.specs.Relay.{Stage, fresh, looked, pushed, measured, popped, is_popped, Job, is_finished, equal_nodes, no_job}
use Rattle.rules.specs.RelayPlaces.{stage_formed, job_formed, jobs_formed, pending, pending_at}
use Rattle.rules.proofs.Tests.{both, together}
use Rattle.neighbor.specs.Holdable.{Holdable}
use Rattle.neighbor.proofs.Bits.{holdable_fit}
use Rattle.lists.specs.All.{All}
use Rattle.encoded.specs.Words.{Readable}
use Rattle.relay_kept.specs.Formed.{JobFormed}
use Rattle.relay_kept.specs.Halves.{stage_of, target, with_stage, others, pending_job, pending_beside}

-- ---- the parts of the test of one job

abbrev near : Job → Bool
near j = cond (equal_nodes j) (eqb (to_bits binary32 j.distance) 0) (fit j.distance)

pub record Parts (n : ℕ) (j : Job) : Type 0 where
  pub u_in : j.u < n
  pub v_in : j.v < n
  pub near : cond (equal_nodes j) (eqb (to_bits binary32 j.distance) 0) (fit j.distance) ≡ true
  pub first : stage_formed (equal_nodes j) j.first ≡ true
  pub second : stage_formed (equal_nodes j) j.second ≡ true

pub parts : (n : ℕ) (j : Job) → job_formed n j ≡ true → Parts n j
unfolding job_formed
parts n j h =
    let e = equal_nodes j in
    let a = both (ltb j.u n && ltb j.v n) (near j && (stage_formed e j.first && stage_formed e j.second)) h in
    let b = both (ltb j.u n) (ltb j.v n) a.0 in
    let c = both (near j) (stage_formed e j.first && stage_formed e j.second) a.1 in
    let d = both (stage_formed e j.first) (stage_formed e j.second) c.1 in
    record { u_in = ltb-true j.u n b.0; v_in = ltb-true j.v n b.1; near = c.0; first = d.0; second = d.1 }

pub whole : (n : ℕ) (j : Job) → Parts n j → job_formed n j ≡ true
unfolding job_formed
whole n j p =
    let e = equal_nodes j in
    together (ltb j.u n && ltb j.v n) (near j && (stage_formed e j.first && stage_formed e j.second))
    (together (ltb j.u n) (ltb j.v n) (lt-ltb j.u n p.u_in) (lt-ltb j.v n p.v_in))
    (together (near j) (stage_formed e j.first && stage_formed e j.second) p.near
    (together (stage_formed e j.first) (stage_formed e j.second) p.first p.second))

pub holdable_job : (n : ℕ) (j : Job) → T (fits binary32 j.distance) → Parts n j → Holdable j.distance
holdable_job n j f p = go (equal_nodes j) p.near
  where
    go : (b : Bool) → cond b (eqb (to_bits binary32 j.distance) 0) (fit j.distance) ≡ true → Holdable j.distance
    go true h = let z = eqb-true (to_bits binary32 j.distance) 0 h in record { held = f; low = omega arith }
    go false h = holdable_fit j.distance f h

-- "fit distances": of two nodes
pub near_fit : (n : ℕ) (j : Job) → Parts n j → equal_nodes j ≡ false → fit j.distance ≡ true
near_fit n j p h = rw h at p.near

pub stage_parts : (n : ℕ) (b : Bool) (j : Job) → Parts n j → stage_formed (equal_nodes j) (stage_of b j) ≡ true
stage_parts n false j p = p.first
stage_parts n true j p = p.second

pub target_in : (n : ℕ) (b : Bool) (j : Job) → Parts n j → target b j < n
target_in n false j p = p.u_in
target_in n true j p = p.v_in

-- ---- one half at another stage

-- where b says which half the job is at
pub staged : (n : ℕ) (b : Bool) (j : Job) (s : Stage) → is_popped j.first ≡ b → JobFormed n j → stage_formed (equal_nodes j) s ≡ true → JobFormed n (with_stage b j s)
staged n false j s h J f =
    let p = parts n j J.formed in
    let e = J.readable h in
    record {
      formed = whole n (with_stage false j s) (record { u_in = p.u_in; v_in = p.v_in; near = p.near; first = f; second = p.second });
      held = J.held;
      readable = λ (g : is_popped s ≡ false). e;
    }
staged n true j s h J f =
    let p = parts n j J.formed in
    record {
      formed = whole n (with_stage true j s) (record { u_in = p.u_in; v_in = p.v_in; near = p.near; first = p.first; second = f });
      held = J.held;
      readable = λ (g : is_popped j.first ≡ false). absurd (true≢false (sym h ∙ g));
    }

pub same_stage : (b : Bool) (j : Job) → with_stage b j (stage_of b j) ≡ j
same_stage false j = refl
same_stage true j = refl

pub pending_staged : (w : ℕ) (b : Bool) (j : Job) (s : Stage) → pending_job w (with_stage b j s) ≡ cond (eqb (target b j) w) (pending s) 0 + pending_beside w b j
pending_staged w false j s = refl
pending_staged w true j s = omega arith

pub pending-at_stage : (w : ℕ) (b : Bool) (j : Job) → pending_job w j ≡ cond (eqb (target b j) w) (pending (stage_of b j)) 0 + pending_beside w b j
pending-at_stage w b j = ap (pending_job w) (sym (same_stage b j)) ∙ pending_staged w b j (stage_of b j)

-- ---- all jobs

pub jobs-formed : (n : ℕ) (js : List Job) → jobs_formed n js ≡ true → All (λ (j : Job). job_formed n j ≡ true) js
unfolding jobs_formed
jobs-formed n [] h = tt
jobs-formed n (j ∷ js) h = let b = both (job_formed n j) (jobs_formed n js) h in (b.0, jobs-formed n js b.1)

pub formed-jobs : (n : ℕ) (js : List Job) → All (JobFormed n) js → jobs_formed n js ≡ true
unfolding jobs_formed
formed-jobs n [] J = refl
formed-jobs n (j ∷ js) J = together (job_formed n j) (jobs_formed n js) J.0.formed (formed-jobs n js J.1)

module _ {A : Type 0} where
  pub others-set : (xs : List A) (i : ℕ) (x : A) → others i (set xs i x) ≡ others i xs
  others-set xs i x = rw (take-set-le i xs i x (omega arith), drop-set-lt (suc i) xs i x (omega arith))

  pub all_set : (P : A → Type 0) (xs : List A) (i : ℕ) (x : A) → All P xs → P x → All P (set xs i x)
  all_set P [] i x X p = tt
  all_set P (y ∷ xs) zero x X p = (p, X.1)
  all_set P (y ∷ xs) (suc i) x X p = (X.0, all_set P xs i x X.1 p)

-- one job beside the others
pub pending-others : (w : ℕ) (js : List Job) (i : ℕ) → i < length js → pending_at w js ≡ pending_job w (get_or js i no_job) + pending_at w (others i js)
unfolding pending_at
pending-others w [] i h = absurd (not-suc-le-zero h)
pending-others w (j ∷ js) zero h = omega arith
pending-others w (j ∷ js) (suc i) h = let ih = pending-others w js i (le_of_suc-le-suc h) in omega arith

-- ---- at most one push of a job is not popped

pending-one : (b : Bool) (s : Stage) → cond b (pending s) 0 ≤ 1
unfolding pending
pending-one false s = omega arith
pending-one true fresh = omega arith
pending-one true (looked taken) = omega arith
pending-one true (pushed true) = omega arith
pending-one true (pushed false) = omega arith
pending-one true (measured true longer) = omega arith
pending-one true (measured false longer) = omega arith
pending-one true (popped taken longer) = omega arith

pub pending-popped : (b : Bool) (s : Stage) → is_popped s ≡ true → cond b (pending s) 0 ≡ 0
unfolding pending is_popped
pending-popped false s h = refl
pending-popped true fresh h = refl
pending-popped true (looked taken) h = refl
pending-popped true (pushed taken) h = absurd (true≢false (sym h))
pending-popped true (measured taken longer) h = absurd (true≢false (sym h))
pending-popped true (popped taken longer) h = refl

pub pending-fresh : (b : Bool) (s : Stage) → s ≡ fresh → cond b (pending s) 0 ≡ 0
unfolding pending
pending-fresh false s h = refl
pending-fresh true s h = ap pending h

pending-job : (w : ℕ) (j : Job) → Readable j → pending_job w j ≤ 1
pending-job w j r = go (is_popped j.first) refl
  where
    go : (b : Bool) → is_popped j.first ≡ b → pending_job w j ≤ 1
    go true h = let a = pending-popped (eqb j.u w) j.first h in let b = pending-one (eqb j.v w) j.second in omega arith
    go false h = let a = pending-one (eqb j.u w) j.first in let b = pending-fresh (eqb j.v w) j.second (r h) in omega arith

pub pending-le : (n w : ℕ) (js : List Job) → All (JobFormed n) js → pending_at w js ≤ length js
unfolding pending_at
pending-le n w [] J = omega arith
pending-le n w (j ∷ js) J =
    let a = pending-job w j J.0.readable in
    let b = pending-le n w js J.1 in
    omega arith

-- nothing is pending where every job is finished
pub pending-finished : (w : ℕ) (js : List Job) → All (λ (j : Job). is_finished j ≡ true) js → pending_at w js ≡ 0
unfolding pending_at
pending-finished w [] J = refl
pending-finished w (j ∷ js) J =
    let p = both (is_popped j.first) (is_popped j.second) J.0 in
    let a = pending-popped (eqb j.u w) j.first p.0 in
    let b = pending-popped (eqb j.v w) j.second p.1 in
    let c = pending-finished w js J.1 in
    omega arith
