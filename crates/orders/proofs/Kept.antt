-- A move keeps, of every list, the first k of what it holds and waits for. Assumes nothing.
use mathlib.Core.Path.{◌≡◌, refl, sym, ap, ◌∙◌, subst}
use mathlib.Core.Bool.{Bool, true, false, cond}
use mathlib.Core.List.{List, []}
use Prim.Native.Nat.{ℕ, ◌<◌}
use lib.Dec.{eqb}
use lib.ListN.{length, take}
use borrow.Author.Tests.{eqb-true, eq-eqb}
use Rattle.rules.specs.declared.Neighbor.{Neighbor}
use Rattle.rules.specs.Lists.{insert_all}
use Rattle.rules.specs.Descent.{list_at}
use Rattle.rules.specs.Relay.{Stage, is_popped, Job, Relay, next_stage, equal_nodes, job_at, moved}
use Rattle.lists.proofs.Laws.{same-insert_all}
use Rattle.relay_kept.specs.Formed.{Formed}
use Rattle.relay_kept.specs.Halves.{target, entry_of, stage_of, half_at, found, relay_after}
use Rattle.relay_kept.proofs.Jobs.{parts, stage_parts}
use Rattle.relay_kept.proofs.Kept.{moved-is, offer-held, job-formed, target_below, room-before, list-after, other_after, after-formed}
use Rattle.orders.specs.Steps.{waiting, left}
use Rattle.orders.proofs.Steps.{step_keeps}
use Rattle.orders.proofs.Waiting.{left_at, rest, left_after, left-before, held-left, pushed-first}

-- what w's list will be: the first k of what it holds and waits for
abbrev pub goal_of : ℕ → Relay → ℕ → List Neighbor
goal_of k r w = take k (insert_all (left w r.jobs) (list_at r.lists w))

module _ {n k : ℕ} (r : Relay) (F : Formed n k r) (i : ℕ) (h : i < length r.jobs) (b : Bool) (half : is_popped (job_at r i).first ≡ b) where
  abbrev j : Job
  j = job_at r i

  abbrev t : ℕ
  t = target b (job_at r i)

  abbrev s : Stage
  s = stage_of b (job_at r i)

  abbrev s' : Stage
  s' = next_stage k (equal_nodes (job_at r i)) (entry_of b (job_at r i)) (found r i b) (stage_of b (job_at r i))

  A : Formed n k (relay_after k r i b)
  A = after-formed r F i h b half

  before-is : (w : ℕ) → w < n → goal_of k r w ≡ take k (insert_all (rest w r.jobs i h b) (insert_all (left_at w b j s) (list_at r.lists w)))
  before-is w wn =
      ap (take k) (pushed-first (left_at w b j s) (rest w r.jobs i h b) (list_at r.lists w) (left-before w r.jobs i h b) (held-left n w r.jobs F.jobs) (F.lists w wn).held)

  after_is : (w : ℕ) → w < n
      → goal_of k (relay_after k r i b) w ≡ take k (insert_all (rest w r.jobs i h b) (insert_all (left_at w b j s') (list_at (relay_after k r i b).lists w)))
  after_is w wn =
      ap (take k) (pushed-first (left_at w b j s') (rest w r.jobs i h b) (list_at (relay_after k r i b).lists w) (left_after w r.jobs i h b s') (held-left n w (relay_after k r i b).jobs A.jobs) (A.lists w wn).held)

  -- the list that the step is about, and another
  at_target : take k (insert_all (left_at t b j s') (list_at (relay_after k r i b).lists t)) ≡ take k (insert_all (left_at t b j s) (list_at r.lists t))
  at_target =
      let q = eq-eqb t t refl in
      let J = job-formed r F i h b half in
      ap (λ (c : Bool). take k (insert_all (cond c (waiting (equal_nodes j) (entry_of b j) s') []) (list_at (relay_after k r i b).lists t))) q
      ∙ ap (λ (l : List Neighbor). take k (insert_all (waiting (equal_nodes j) (entry_of b j) s') l)) (list-after r F i h b half)
      ∙ step_keeps n k (equal_nodes j) (entry_of b j) (found r i b) (offer-held b j J.held) (F.lists t (target_below r F i h b half)) s
      (stage_parts n b j (parts n j J.formed)) (room-before r F i h b half)
      ∙ ap (λ (c : Bool). take k (insert_all (cond c (waiting (equal_nodes j) (entry_of b j) s) []) (list_at r.lists t))) (sym q)

  at : (w : ℕ) → (c : Bool) → eqb t w ≡ c
      → take k (insert_all (left_at w b j s') (list_at (relay_after k r i b).lists w)) ≡ take k (insert_all (left_at w b j s) (list_at r.lists w))
  at w true q =
      subst (λ (x : ℕ). take k (insert_all (left_at x b j s') (list_at (relay_after k r i b).lists x)) ≡ take k (insert_all (left_at x b j s) (list_at r.lists x)))
      (eqb-true t w q) at_target
  at w false q =
      ap (λ (c : Bool). take k (insert_all (cond c (waiting (equal_nodes j) (entry_of b j) s') []) (list_at (relay_after k r i b).lists w))) q
      ∙ ap (λ (l : List Neighbor). take k (insert_all [] l)) (other_after r F i h b half w q)
      ∙ ap (λ (c : Bool). take k (insert_all (cond c (waiting (equal_nodes j) (entry_of b j) s) []) (list_at r.lists w))) (sym q)

  pub after_keeps : (w : ℕ) → w < n → goal_of k (relay_after k r i b) w ≡ goal_of k r w
  after_keeps w wn =
      after_is w wn
      ∙ same-insert_all k (rest w r.jobs i h b) (insert_all (left_at w b j s') (list_at (relay_after k r i b).lists w)) (insert_all (left_at w b j s) (list_at r.lists w)) (at w (eqb t w) refl)
      ∙ sym (before-is w wn)

pub moved_keeps : {n k : ℕ} (r : Relay) → Formed n k r → (i : ℕ) → i < length r.jobs → (w : ℕ) → w < n → goal_of k (moved k r i) w ≡ goal_of k r w
moved_keeps {n} {k} r F i h w wn =
    ap (λ (x : Relay). goal_of k x w) (moved-is k r i) ∙ after_keeps r F i h (half_at r i) refl w wn
