-- The jobs after any moves: each at as many steps as it was named, up to eight, and otherwise as opened. Assumes nothing.
use mathlib.Core.Path.{◌≡◌, refl, sym, ap, ◌∙◌, subst}
use mathlib.Core.Bool.{Bool, true, false}
use mathlib.Core.List.{List, [], ◌∷◌, ◌++◌}
use Prim.Native.Nat.{ℕ, zero, suc, ◌+◌, ◌≤◌, ◌<◌, min}
use native.Mathlib.Nat.{not-suc-le-zero}
use native.Mathlib.Omega.{arith}
use lib.Dec.{eqb, ltb}
use lib.ListN.{length, replicate}
use borrow.Author.Tests.{eqb-true, eqb-false, eq-eqb, ltb-true, ltb-false}
use Rattle.rules.specs.Loops.{each}
use Rattle.rules.specs.Distance.{between}
use Rattle.rules.specs.Relay.{steps_of, Job, Relay, is_finished, no_job, job_at, job_of, opened, moved}
use Rattle.rules.specs.RelayCall.{OpenLent, opened_on}
use Rattle.rules.proofs.Loops.{length-ones, get_d_ones}
use Rattle.relay_kept.specs.Halves.{half_at, job_after}
use Rattle.orders.specs.Runs.{ran, count, steps_done}
use Rattle.orders.specs.Demand3.{pairs, Finishes, in_turn}
use Rattle.orders.proofs.Runs.{finished_steps, steps_finished, ran_keeps, ran-length, ran_steps, moved_same, moved_other}

-- ---- an order that finishes

count-append : (i : ℕ) (xs ys : List ℕ) → count i (xs ++ ys) ≡ count i xs + count i ys
unfolding count
count-append i [] ys = omega arith
count-append i (x ∷ xs) ys = let e = count-append i xs ys in omega arith

count_eight : (i : ℕ) → count i (replicate 8 i) ≡ 8
unfolding count
count_eight i = rw (eq-eqb i i refl)

count-turns : (m i : ℕ) → i < m → 8 ≤ count i (each (λ (x : ℕ). replicate 8 x) m)
unfolding each
count-turns zero i h = absurd (not-suc-le-zero h)
count-turns (suc m) i h = go (ltb i m) refl (count-turns m i)
  where
    e : count i (each (λ (x : ℕ). replicate 8 x) m ++ replicate 8 m) ≡ count i (each (λ (x : ℕ). replicate 8 x) m) + count i (replicate 8 m)
    e = count-append i (each (λ (x : ℕ). replicate 8 x) m) (replicate 8 m)

    go : (b : Bool) → ltb i m ≡ b → (i < m → 8 ≤ count i (each (λ (x : ℕ). replicate 8 x) m)) → 8 ≤ count i (each (λ (x : ℕ). replicate 8 x) m ++ replicate 8 m)
    go true t ih = let a = ih (ltb-true i m t) in let b = e in omega arith
    go false t ih =
        let a = ltb-false i m t in
        let q : i ≡ m = omega arith in
        let c : count i (replicate 8 m) ≡ 8 = subst (λ (x : ℕ). count i (replicate 8 x) ≡ 8) q (count_eight i) in
        let b = e in
        omega arith

pub in_turn_lem : (l : OpenLent) → Finishes l (in_turn l)
in_turn_lem l i h = let a = count-turns (pairs l) i h in omega arith

-- ---- the jobs of an opening

module _ (l : OpenLent) where
  pub opened-length : length (opened_on l).jobs ≡ pairs l
  unfolding opened_on opened
  opened-length = length-ones (job_of (between l.lanes l.dimension) l.jobs) (pairs l)

  pub opened-job : (i : ℕ) → i < pairs l → job_at (opened_on l) i ≡ job_of (between l.lanes l.dimension) l.jobs i
  unfolding opened_on opened
  opened-job i h = get_d_ones (job_of (between l.lanes l.dimension) l.jobs) (pairs l) i no_job h

  opened_steps : (i : ℕ) → i < pairs l → steps_done (job_at (opened_on l) i) ≡ 0
  unfolding job_of steps_of
  opened_steps i h = ap steps_done (opened-job i h)

  module _ (order : List ℕ) where
    abbrev R : Relay
    R = ran l.k order (opened_on l)

    pub run_length : length (ran l.k order (opened_on l)).jobs ≡ pairs l
    run_length = ran-length l.k (opened_on l) order ∙ opened-length

    pub run_steps : (i : ℕ) → i < pairs l → steps_done (job_at (ran l.k order (opened_on l)) i) ≡ min 8 (count i order)
    run_steps i h =
        let e = opened-length in
        let a = opened_steps i h in
        let b = ran_steps l.k (opened_on l) order i (omega arith) in
        omega arith

    pub is-finished : (i : ℕ) → i < pairs l → 8 ≤ count i order → is_finished (job_at (ran l.k order (opened_on l)) i) ≡ true
    is-finished i h c = let s = run_steps i h in steps_finished (job_at R i) (omega arith)

    pub is_unfinished : (i : ℕ) → i < pairs l → count i order < 8 → is_finished (job_at (ran l.k order (opened_on l)) i) ≡ false
    is_unfinished i h c = go (is_finished (job_at R i)) refl
      where
        go : (b : Bool) → is_finished (job_at R i) ≡ b → b ≡ false
        go true e = let s = run_steps i h in let t = finished_steps (job_at R i) e in absurd (omega arith)
        go false e = refl

-- ---- moves change stages and nothing else of a job

pub record Alike (j₀ j : Job) : Type 0 where
  pub u : j.u ≡ j₀.u
  pub v : j.v ≡ j₀.v
  pub distance : j.distance ≡ j₀.distance

alike-after : (k : ℕ) (r : Relay) (i : ℕ) (a : Bool) (j₀ : Job) → Alike j₀ (job_at r i) → Alike j₀ (job_after k r i a)
alike-after k r i false j₀ A = record { u = A.u; v = A.v; distance = A.distance }
alike-after k r i true j₀ A = record { u = A.u; v = A.v; distance = A.distance }

pub run_alike : (k : ℕ) (r : Relay) (order : List ℕ) (x : ℕ) → Alike (job_at r x) (job_at (ran k order r) x)
run_alike k r₀ order x =
    ran_keeps k (λ (r : Relay). Alike (job_at r₀ x) (job_at r x)) (λ (r : Relay) (i : ℕ) (h : i < length r.jobs) (f : is_finished (job_at r i) ≡ false) (A : Alike (job_at r₀ x) (job_at r x)). at r i h A (eqb i x) refl) r₀ order
    (record { u = refl; v = refl; distance = refl })
  where
    at : (r : Relay) (i : ℕ) → i < length r.jobs → Alike (job_at r₀ x) (job_at r x) → (b : Bool) → eqb i x ≡ b → Alike (job_at r₀ x) (job_at (moved k r i) x)
    at r i h A false q = subst (Alike (job_at r₀ x)) (sym (moved_other k r i x (eqb-false i x q))) A
    at r i h A true q =
        let e = eqb-true i x q in
        subst (λ (y : ℕ). Alike (job_at r₀ x) (job_at (moved k r i) y)) e
        (subst (Alike (job_at r₀ x)) (sym (moved_same k r i h)) (alike-after k r i (half_at r i) (job_at r₀ x) (subst (λ (y : ℕ). Alike (job_at r₀ x) (job_at r y)) (sym e) A)))
