-- What lists wait for at opening is what is offered to them, and in the end they wait for nothing. Assumes nothing.
use mathlib.Core.Path.{◌≡◌, refl, sym, ap, ◌∙◌}
use mathlib.Core.Bool.{Bool, true, false, not, cond, true≢false}
use mathlib.Core.List.{List, [], ◌∷◌, ◌++◌, append_assoc, append-nil}
use Prim.Native.Nat.{ℕ, zero, suc, ◌<◌}
use native.Mathlib.Omega.{arith}
use lib.Dec.{eqb}
use lib.ListN.{length, take}
use lib.Seq.{take_all}
use Rattle.rules.specs.declared.Neighbor.{Neighbor}
use Rattle.rules.specs.Loops.{each, through}
use Rattle.rules.specs.Distance.{zero32, between}
use Rattle.rules.specs.Lists.{neighbor, insert_all, least}
use Rattle.rules.specs.Descent.{list_at}
use Rattle.rules.specs.Relay.{Stage, fresh, looked, pushed, measured, popped, is_popped, Job, Relay, is_finished, equal_nodes, for_u, for_v, job_of, opened}
use Rattle.rules.specs.RelayCall.{OpenLent, opened_on}
use Rattle.rules.proofs.Tests.{both}
use Rattle.lists.specs.All.{All}
use Rattle.lists.proofs.Laws.{insert_all-ascending}
use Rattle.relay_kept.specs.Formed.{Formed}
use Rattle.relay_kept.proofs.Jobs.{pending-finished}
use Rattle.orders.specs.Steps.{waits, waiting, left_first, left_second, left}
use Rattle.orders.specs.Demand3.{u, v, apart, held, offers_of, offers, offered, pairs}
use Rattle.orders.proofs.Kept.{goal_of}

-- ---- at opening

left_snoc : (w : ℕ) (js : List Job) (j : Job) → left w (js ++ (j ∷ [])) ≡ left w js ++ (left_first w j ++ left_second w j)
unfolding left
left_snoc w [] j = append-nil (left_first w j ++ left_second w j)
left_snoc w (x ∷ js) j =
    ap (λ (l : List Neighbor). (left_first w x ++ left_second w x) ++ l) (left_snoc w js j)
    ∙ sym (append_assoc (left_first w x ++ left_second w x) (left w js) (left_first w j ++ left_second w j))

module _ (l : OpenLent) (w : ℕ) where
  left-job : (i : ℕ) → left_first w (job_of (between l.lanes l.dimension) l.jobs i) ++ left_second w (job_of (between l.lanes l.dimension) l.jobs i) ≡ offers l w i
  unfolding offers_of job_of waits
  left-job i = go (eqb (u l i) (v l i)) (eqb (u l i) w) (eqb (v l i) w)
    where
      go : (a b c : Bool)
          → cond b (cond (not a) (neighbor (v l i) (cond a zero32 (apart l i)) ∷ []) []) [] ++ cond c (cond (not a) (neighbor (u l i) (cond a zero32 (apart l i)) ∷ []) []) []
          ≡ cond a [] (cond b (neighbor (v l i) (apart l i) ∷ []) [] ++ cond c (neighbor (u l i) (apart l i) ∷ []) [])
      go true true true = refl
      go true true false = refl
      go true false true = refl
      go true false false = refl
      go false b c = refl

  left-jobs : (m : ℕ) → left w (each (λ (i : ℕ). job_of (between l.lanes l.dimension) l.jobs i ∷ []) m) ≡ each (offers l w) m
  unfolding each left
  left-jobs zero = refl
  left-jobs (suc m) =
      let d = between l.lanes l.dimension in
      left_snoc w (each (λ (i : ℕ). job_of d l.jobs i ∷ []) m) (job_of d l.jobs m)
      ∙ ap (λ (x : List Neighbor). x ++ (left_first w (job_of d l.jobs m) ++ left_second w (job_of d l.jobs m))) (left-jobs m)
      ∙ ap (λ (x : List Neighbor). each (offers l w) m ++ x) (left-job m)

  pub left-opened : left w (opened_on l).jobs ≡ offered l w
  unfolding opened_on opened offered
  left-opened = left-jobs (pairs l)

-- so each list aims at the least k
pub goal_opened : (l : OpenLent) → Formed l.n l.k (opened_on l) → (w : ℕ) → w < l.n → goal_of l.k (opened_on l) w ≡ least l.k (held l w ++ offered l w)
unfolding least opened_on opened
goal_opened l F w wn =
    ap (λ (x : List Neighbor). take l.k (insert_all x (held l w))) (left-opened l w)
    ∙ ap (take l.k) (insert_all-ascending (offered l w) (held l w) (F.lists w wn).held (F.lists w wn).ascends)

-- ---- in the end

no_wait : (b equal : Bool) (e : Neighbor) (s : Stage) → is_popped s ≡ true → cond b (waiting equal e s) [] ≡ []
unfolding is_popped waits
no_wait false equal e s h = refl
no_wait true equal e fresh h = absurd (true≢false (sym h))
no_wait true equal e (looked taken) h = absurd (true≢false (sym h))
no_wait true equal e (pushed taken) h = refl
no_wait true equal e (measured taken longer) h = refl
no_wait true equal e (popped taken longer) h = refl

abbrev Done : Job → Type 0
Done j = is_finished j ≡ true

left_none : (w : ℕ) (js : List Job) → All Done js → left w js ≡ []
unfolding left
left_none w [] D = refl
left_none w (j ∷ js) D =
    let b = both (is_popped j.first) (is_popped j.second) D.0 in
    rw (no_wait (eqb j.u w) (equal_nodes j) (for_u j) j.first b.0, no_wait (eqb j.v w) (equal_nodes j) (for_v j) j.second b.1) (left_none w js D.1)

module _ {n k : ℕ} (r : Relay) (F : Formed n k r) (D : All (λ (j : Job). is_finished j ≡ true) r.jobs) where
  -- each list is back at k entries
  pub end-long : (w : ℕ) → w < n → length (list_at r.lists w) ≡ k
  end-long w wn = let a = F.lengths w wn in let b = pending-finished w r.jobs D in omega arith

  -- and is what it aimed at
  pub end_list : (w : ℕ) → w < n → list_at r.lists w ≡ goal_of k r w
  unfolding insert_all through
  end_list w wn =
      let m = end-long w wn in
      sym (take_all k (list_at r.lists w) (omega arith)) ∙ ap (λ (x : List Neighbor). take k (insert_all x (list_at r.lists w))) (sym (left_none w r.jobs D))
