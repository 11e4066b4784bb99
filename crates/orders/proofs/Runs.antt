-- A sequence of moves, as the calls leave the state: each job's steps, and what is kept. Assumes nothing.
use mathlib.Core.Path.{◌≡◌, refl, sym, ap, ◌∙◌, subst}
use mathlib.Core.Bool.{Bool, true, false, not, ◌&&◌, ◌||◌, cond, true≢false}
use mathlib.Core.List.{List, [], ◌∷◌}
use Prim.Native.Nat.{ℕ, suc, ◌+◌, ◌≤◌, ◌<◌, min}
use native.Mathlib.Omega.{arith}
use lib.Dec.{eqb, leb}
use lib.ListN.{length, length-set}
use lib.Seq.{get_or-set_same, get_or-set_other}
use borrow.Author.Tests.{eqb-true, eqb-false, leb-true, leb-false, lt-leb}
use Rattle.rules.specs.declared.Neighbor.{Neighbor}
use Rattle.rules.specs.Loops.{through, first_from}
use Rattle.rules.specs.Relay.{Stage, fresh, looked, pushed, measured, popped, steps_of, is_popped, Job, Relay, equal_nodes, is_finished, no_job, job_at, moved, lowest_unfinished}
use Rattle.rules.proofs.Loops.{first_holds}
use Rattle.relay_kept.specs.Formed.{Formed}
use Rattle.relay_kept.specs.Halves.{entry_of, half_at, found, job_after}
use Rattle.relay_kept.proofs.Kept.{moved-is, moved-formed}
use Rattle.relay_kept.proofs.Stages.{steps_most, steps_popped, steps_next}
use Rattle.orders.specs.Runs.{idle, moved_if, ran, count, steps_done}
use Rattle.orders.proofs.Kept.{goal_of}

-- ---- the steps of one job

popped_steps : (s : Stage) → steps_of s ≡ 4 → is_popped s ≡ true
unfolding steps_of is_popped
popped_steps fresh h = absurd (omega arith)
popped_steps (looked taken) h = absurd (omega arith)
popped_steps (pushed taken) h = absurd (omega arith)
popped_steps (measured taken longer) h = absurd (omega arith)
popped_steps (popped taken longer) h = refl

pub steps_bound : (j : Job) → steps_done j ≤ 8
steps_bound j =
    let p = steps_most j.first in
    let q = steps_most j.second in
    omega arith

-- "each job takes eight"
pub finished_steps : (j : Job) → is_finished j ≡ true → steps_done j ≡ 8
finished_steps j h = go (is_popped j.first) (is_popped j.second) refl refl h
  where
    go : (a b : Bool) → is_popped j.first ≡ a → is_popped j.second ≡ b → (a && b) ≡ true → steps_done j ≡ 8
    go true true p q e = let x = steps_popped j.first p in let y = steps_popped j.second q in omega arith
    go true false p q e = absurd (true≢false (sym e))
    go false b p q e = absurd (true≢false (sym e))

pub steps_finished : (j : Job) → steps_done j ≡ 8 → is_finished j ≡ true
steps_finished j h =
    let p = steps_most j.first in
    let q = steps_most j.second in
    rw (popped_steps j.first (omega arith), popped_steps j.second (omega arith))

-- a move of an unfinished job is one step of it
steps_after : (k : ℕ) (r : Relay) (i : ℕ) → is_finished (job_at r i) ≡ false → steps_done (job_after k r i (half_at r i)) ≡ suc (steps_done (job_at r i))
steps_after k r i f = go (is_popped (job_at r i).first) (is_popped (job_at r i).second) refl refl f
  where
    j : Job
    j = job_at r i

    go : (a b : Bool) → is_popped (job_at r i).first ≡ a → is_popped (job_at r i).second ≡ b → (a && b) ≡ false → steps_done (job_after k r i a) ≡ suc (steps_done (job_at r i))
    go true true p q e = absurd (true≢false e)
    go true false p q e =
        let x = steps_next k (equal_nodes (job_at r i)) (entry_of true (job_at r i)) (found r i true) (job_at r i).second q in
        omega arith
    go false b p q e =
        let x = steps_next k (equal_nodes (job_at r i)) (entry_of false (job_at r i)) (found r i false) (job_at r i).first p in
        omega arith

-- ---- one move, of any number

pub idle-false : (r : Relay) (i : ℕ) → idle r i ≡ false → (i < length r.jobs) × (is_finished (job_at r i) ≡ false)
idle-false r i h = go (leb (length r.jobs) i) refl h
  where
    go : (b : Bool) → leb (length r.jobs) i ≡ b → (b || is_finished (job_at r i)) ≡ false → (i < length r.jobs) × (is_finished (job_at r i) ≡ false)
    go true e h = absurd (true≢false h)
    go false e h = (leb-false (length r.jobs) i e, h)

pub resting : (r : Relay) (i : ℕ) → i < length r.jobs → idle r i ≡ true → is_finished (job_at r i) ≡ true
resting r i h e = rw (lt-leb (length r.jobs) i h) at e

-- a fact that every move of an unfinished job keeps
module _ (k : ℕ) (P : Relay → Type 0) (keeps : (r : Relay) (i : ℕ) → i < length r.jobs → is_finished (job_at r i) ≡ false → P r → P (moved k r i)) where
  pub if_keeps : (r : Relay) (i : ℕ) → P r → P (moved_if k r i)
  unfolding moved_if
  if_keeps r i p = go (idle r i) refl
    where
      go : (b : Bool) → idle r i ≡ b → P (cond b r (moved k r i))
      go true e = p
      go false e = let x = idle-false r i e in keeps r i x.0 x.1 p

  pub ran_keeps : (r : Relay) (is : List ℕ) → P r → P (ran k is r)
  unfolding ran through
  ran_keeps r [] p = p
  ran_keeps r (i ∷ is) p = ran_keeps (moved_if k r i) is (if_keeps r i p)

pub if_formed : {n k : ℕ} (r : Relay) (i : ℕ) → Formed n k r → Formed n k (moved_if k r i)
if_formed {n} {k} = if_keeps k (Formed n k) (λ (r : Relay) (i : ℕ) (h : i < length r.jobs) (f : is_finished (job_at r i) ≡ false) (F : Formed n k r). moved-formed r F i h)

pub ran-formed : {n k : ℕ} (r : Relay) (is : List ℕ) → Formed n k r → Formed n k (ran k is r)
ran-formed {n} {k} = ran_keeps k (Formed n k) (λ (r : Relay) (i : ℕ) (h : i < length r.jobs) (f : is_finished (job_at r i) ≡ false) (F : Formed n k r). moved-formed r F i h)

-- what the lists will be
pub record Aims (n k : ℕ) (goal : ℕ → List Neighbor) (r : Relay) : Type 0 where
  pub formed : Formed n k r
  pub aims : (w : ℕ) → w < n → goal_of k r w ≡ goal w

-- ---- counted

module _ (k : ℕ) where
  pub moved_length : (r : Relay) (i : ℕ) → length (moved k r i).jobs ≡ length r.jobs
  moved_length r i = ap (λ (x : Relay). length x.jobs) (moved-is k r i) ∙ length-set r.jobs i (job_after k r i (half_at r i))

  pub if_length : (r : Relay) (i : ℕ) → length (moved_if k r i).jobs ≡ length r.jobs
  unfolding moved_if
  if_length r i = go (idle r i)
    where
      go : (b : Bool) → length (cond b r (moved k r i)).jobs ≡ length r.jobs
      go true = refl
      go false = moved_length r i

  -- the job that moves, and another
  pub moved_same : (r : Relay) (i : ℕ) → i < length r.jobs → job_at (moved k r i) i ≡ job_after k r i (half_at r i)
  moved_same r i h = ap (λ (x : Relay). job_at x i) (moved-is k r i) ∙ get_or-set_same r.jobs i (job_after k r i (half_at r i)) no_job h

  pub moved_other : (r : Relay) (i x : ℕ) → (i ≡ x → ⊥) → job_at (moved k r i) x ≡ job_at r x
  moved_other r i x ne =
      ap (λ (y : Relay). job_at y x) (moved-is k r i) ∙ get_or-set_other r.jobs i x (job_after k r i (half_at r i)) no_job (λ (q : x ≡ i). ne (sym q))

  if_steps : (r : Relay) (i x : ℕ) → x < length r.jobs → steps_done (job_at (moved_if k r i) x) ≡ min 8 (steps_done (job_at r x) + cond (eqb i x) 1 0)
  unfolding moved_if
  if_steps r i x h = go (idle r i) (eqb i x) refl refl
    where
      bound : steps_done (job_at r x) ≤ 8
      bound = steps_bound (job_at r x)

      go : (b c : Bool) → idle r i ≡ b → eqb i x ≡ c → steps_done (job_at (cond b r (moved k r i)) x) ≡ min 8 (steps_done (job_at r x) + cond c 1 0)
      go true false e q = let p = bound in omega arith
      go true true e q =
          let y = eqb-true i x q in
          let f = finished_steps (job_at r x) (resting r x h (subst (λ (z : ℕ). idle r z ≡ true) y e)) in
          omega arith
      go false true e q =
          let y = eqb-true i x q in
          let d = moved_same r x h in
          let a = steps_after k r x (idle-false r x (subst (λ (z : ℕ). idle r z ≡ false) y e)).1 in
          let b = steps_bound (job_after k r x (half_at r x)) in
          subst (λ (z : ℕ). steps_done (job_at (moved k r z) x) ≡ min 8 (steps_done (job_at r x) + 1)) (sym y) (ap steps_done d ∙ omega arith)
      go false false e q = let p = bound in ap steps_done (moved_other r i x (eqb-false i x q)) ∙ omega arith

  pub ran-length : (r : Relay) (is : List ℕ) → length (ran k is r).jobs ≡ length r.jobs
  unfolding ran through
  ran-length r [] = refl
  ran-length r (i ∷ is) = ran-length (moved_if k r i) is ∙ if_length r i

  pub ran_steps : (r : Relay) (is : List ℕ) (x : ℕ) → x < length r.jobs → steps_done (job_at (ran k is r) x) ≡ min 8 (steps_done (job_at r x) + count x is)
  unfolding ran through count
  ran_steps r [] x h = let b = steps_bound (job_at r x) in omega arith
  ran_steps r (i ∷ is) x h =
      let l = if_length r i in
      let a = if_steps r i x h in
      let b = ran_steps (moved_if k r i) is x (omega arith) in
      omega arith

-- ---- at the end

-- a search for what is nowhere
pub none_first : (p : ℕ → Bool) (m : ℕ) → ((i : ℕ) → i < m → p i ≡ false) → m ≤ first_from p 0 m
none_first p m f = go (leb m (first_from p 0 m)) refl
  where
    go : (b : Bool) → leb m (first_from p 0 m) ≡ b → m ≤ first_from p 0 m
    go true e = leb-true m (first_from p 0 m) e
    go false e =
        let l = leb-false m (first_from p 0 m) e in
        absurd (true≢false (sym (first_holds p 0 m (omega arith)) ∙ f (first_from p 0 m) l))

pub none_unfinished : (r : Relay) → ((x : ℕ) → x < length r.jobs → is_finished (job_at r x) ≡ true) → length r.jobs ≤ lowest_unfinished r
unfolding lowest_unfinished
none_unfinished r f =
    none_first (λ (i : ℕ). not (is_finished (job_at r i))) (length r.jobs) (λ (i : ℕ) (h : i < length r.jobs). ap not (f i h))
