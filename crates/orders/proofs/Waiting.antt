-- The offers that a list waits for: those of one job beside those of the others. Assumes nothing.
use mathlib.Core.Path.{◌≡◌, sym, ◌∙◌, subst}
use mathlib.Core.Bool.{Bool, true, false, cond}
use mathlib.Core.List.{List, [], ◌∷◌, ◌++◌, append_assoc}
use Prim.Native.Nat.{ℕ, zero, suc, ◌<◌}
use native.Mathlib.Nat.{le_of_suc-le-suc, not-suc-le-zero}
use native.Mathlib.Omega.{arith}
use lib.Dec.{eqb}
use lib.ListN.{length, get_or, set, length-set}
use lib.Seq.{get_or-set_same}
use Rattle.rules.specs.declared.Neighbor.{Neighbor}
use Rattle.rules.specs.Lists.{insert_all}
use Rattle.rules.specs.Relay.{Stage, Job, equal_nodes, for_u, for_v, no_job}
use Rattle.neighbor.specs.Holdable.{Holdable}
use Rattle.lists.specs.Ascending.{AllHoldable, Perm, same, chain}
use Rattle.lists.specs.All.{All}
use Rattle.lists.proofs.Perm.{perm_front, perm_end, perm_append}
use Rattle.lists.proofs.Laws.{holdable_append, insert_all-append, insert_all_perm}
use Rattle.relay_kept.specs.Formed.{JobFormed}
use Rattle.relay_kept.specs.Halves.{target, entry_of, stage_of, with_stage, others}
use Rattle.relay_kept.proofs.Jobs.{same_stage, others-set}
use Rattle.orders.specs.Steps.{waits, waiting, left_first, left_second, left_beside, left}

-- what the half b of a job at stage s has still to push to w's list
abbrev pub left_at : ℕ → Bool → Job → Stage → List Neighbor
left_at w b j s = cond (eqb (target b j) w) (waiting (equal_nodes j) (entry_of b j) s) []

-- ---- one half beside the other

left_staged : (w : ℕ) (b : Bool) (j : Job) (s : Stage) → Perm (left_first w (with_stage b j s) ++ left_second w (with_stage b j s)) (left_at w b j s ++ left_beside w b j)
left_staged w false j s = same
left_staged w true j s = perm_append (left_first w j) (left_at w true j s)

-- ---- one job beside the others

left-others : (w : ℕ) (js : List Job) (i : ℕ) → i < length js
    → Perm (left w js) ((left_first w (get_or js i no_job) ++ left_second w (get_or js i no_job)) ++ left w (others i js))
unfolding left
left-others w [] i h = absurd (not-suc-le-zero h)
left-others w (j ∷ js) zero h = same
left-others w (j ∷ js) (suc i) h =
    let m = left_first w j ++ left_second w j in
    let o = left_first w (get_or js i no_job) ++ left_second w (get_or js i no_job) in
    let q : Perm (m ++ (o ++ left w (others i js))) (o ++ (m ++ left w (others i js))) =
    subst (λ (x : List Neighbor). Perm x (o ++ (m ++ left w (others i js)))) (append_assoc m o (left w (others i js)))
    (subst (λ (x : List Neighbor). Perm ((m ++ o) ++ left w (others i js)) x) (append_assoc o m (left w (others i js))) (perm_end (left w (others i js)) (perm_append m o))) in
    chain (perm_front m (left-others w js i (le_of_suc-le-suc h))) q

module _ (w : ℕ) (js : List Job) (i : ℕ) (h : i < length js) (b : Bool) where
  abbrev pub rest : List Neighbor
  rest = left_beside w b (get_or js i no_job) ++ left w (others i js)

  -- with the half b at stage s
  pub left_after : (s : Stage) → Perm (left w (set js i (with_stage b (get_or js i no_job) s))) (left_at w b (get_or js i no_job) s ++ rest)
  left_after s =
      let j = get_or js i no_job in
      let j' = with_stage b j s in
      let a : Perm (left w (set js i j')) ((left_first w j' ++ left_second w j') ++ left w (others i js)) =
      subst (λ (o : List Job). Perm (left w (set js i j')) ((left_first w j' ++ left_second w j') ++ left w o)) (others-set js i j')
      (subst (λ (x : Job). Perm (left w (set js i j')) ((left_first w x ++ left_second w x) ++ left w (others i (set js i j')))) (get_or-set_same js i j' no_job h)
      (left-others w (set js i j') i (let e = length-set js i j' in omega arith))) in
      subst (Perm (left w (set js i j'))) (append_assoc (left_at w b j s) (left_beside w b j) (left w (others i js)))
      (chain a (perm_end (left w (others i js)) (left_staged w b j s)))

  -- as it is
  pub left-before : Perm (left w js) (left_at w b (get_or js i no_job) (stage_of b (get_or js i no_job)) ++ rest)
  left-before =
      let j = get_or js i no_job in
      let a : Perm (left w js) ((left_first w (with_stage b j (stage_of b j)) ++ left_second w (with_stage b j (stage_of b j))) ++ left w (others i js)) =
      subst (λ (x : Job). Perm (left w js) ((left_first w x ++ left_second w x) ++ left w (others i js))) (sym (same_stage b j)) (left-others w js i h) in
      subst (Perm (left w js)) (append_assoc (left_at w b j (stage_of b j)) (left_beside w b j) (left w (others i js)))
      (chain a (perm_end (left w (others i js)) (left_staged w b j (stage_of b j))))

-- ---- they can be held

held-cond : (b : Bool) (es : List Neighbor) → AllHoldable es → AllHoldable (cond b es [])
held-cond true es E = E
held-cond false es E = tt

held-waiting : (equal : Bool) (e : Neighbor) (s : Stage) → Holdable e.distance → AllHoldable (waiting equal e s)
held-waiting equal e s E = held-cond (waits equal s) (e ∷ []) (E, tt)

pub held-left : (n w : ℕ) (js : List Job) → All (JobFormed n) js → AllHoldable (left w js)
unfolding left
held-left n w [] J = tt
held-left n w (j ∷ js) J =
    let d = J.0.held in
    holdable_append (left_first w j ++ left_second w j) (left w js)
    (holdable_append (left_first w j) (left_second w j)
    (held-cond (eqb j.u w) (waiting (equal_nodes j) (for_u j) j.first) (held-waiting (equal_nodes j) (for_u j) j.first d))
    (held-cond (eqb j.v w) (waiting (equal_nodes j) (for_v j) j.second) (held-waiting (equal_nodes j) (for_v j) j.second d)))
    (held-left n w js J.1)

-- ---- so the half that moves may be pushed first

pub pushed-first : {es : List Neighbor} (hs rs l : List Neighbor) → Perm es (hs ++ rs) → AllHoldable es → AllHoldable l → insert_all es l ≡ insert_all rs (insert_all hs l)
pushed-first hs rs l p E L = insert_all_perm p l E L ∙ insert_all-append hs rs l
