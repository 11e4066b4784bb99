-- What a move leaves of a well-formed relay is well formed. Assumes nothing.
use mathlib.Core.Path.{◌≡◌, refl, sym, ap, ◌∙◌, subst}
use mathlib.Core.Bool.{Bool, true, false, not, ◌&&◌, cond, true≢false}
use mathlib.Core.List.{List, []}
use Prim.Native.Nat.{ℕ, ◌+◌, ◌-◌, ◌≤◌, ◌<◌}
use native.Mathlib.Omega.{arith}
use lib.Dec.{eqb}
use lib.ListN.{length, set, length-set}
use lib.Seq.{length-take-le, get_or-set_same, get_or-set_other}
use borrow.Author.Tests.{lt-ltb, eqb-true, eqb-false, eq-eqb}
use Rattle.rules.specs.declared.Neighbor.{Neighbor}
use Rattle.rules.specs.Offers.{entry_formed, look, pop}
use Rattle.rules.specs.Descent.{list_at}
use Rattle.rules.specs.Relay.{Stage, fresh, looked, pushed, measured, popped, is_popped, Job, Relay, next_stage, next_list, move_first, move_second, moved, equal_nodes, no_job, job_at}
use Rattle.rules.specs.RelayPlaces.{stage_formed, pending, pending_at}
use Rattle.rules.proofs.Tests.{both, together}
use Rattle.neighbor.specs.Holdable.{Holdable}
use Rattle.lists.proofs.Laws.{length-insert}
use Rattle.lists.proofs.Plain.{all-at}
use Rattle.relay_kept.specs.Formed.{ListFormed, JobFormed, Formed}
use Rattle.relay_kept.specs.Halves.{target, entry_of, stage_of, with_stage, half_at, found, job_after, relay_after, others, pending_job, pending_beside}
use Rattle.steps.proofs.Formed.{entry-formed}
use Rattle.relay_kept.proofs.Lists.{formed-insert, formed-take}
use Rattle.relay_kept.proofs.Jobs.{Parts, parts, near_fit, stage_parts, target_in, staged, pending_staged, pending-at_stage, others-set, all_set, pending-others}

-- ---- one step of an offer of e to the list l, for which others have P entries to pop

record Stepped (n k P : ℕ) (equal : Bool) (e : Neighbor) (l : List Neighbor) (s : Stage) : Type 0 where
  list : ListFormed n (next_list e l s)
  stage : stage_formed equal (next_stage k equal e l s) ≡ true
  long : length (next_list e l s) ≡ k + (pending (next_stage k equal e l s) + P)

not_equal : (equal : Bool) → not (equal && true) ≡ true → equal ≡ false
not_equal true h = sym h
not_equal false h = refl

module _ (n k P : ℕ) (equal : Bool) (e : Neighbor) (l : List Neighbor) (E : Holdable e.distance) (N : equal ≡ false → entry_formed n e ≡ true) (L : ListFormed n l) where
  stepped : (s : Stage) → stage_formed equal s ≡ true → length l ≡ k + (pending s + P) → Stepped n k P equal e l s
  unfolding next_list next_stage stage_formed pending pop
  stepped fresh f h = record { list = L; stage = go equal (look e l); long = h }
    where
      go : (a b : Bool) → not (a && (not a && b)) ≡ true
      go true b = refl
      go false b = refl
  stepped (looked true) f h =
      record { list = formed-insert n e l E (N (not_equal equal f)) L; stage = f; long = (let i = length-insert e l in omega arith) }
  stepped (looked false) f h = record { list = L; stage = f; long = h }
  stepped (pushed true) f h =
      record {
        list = L;
        stage = rw (lt-ltb k (length l) (omega arith)) (together (not (equal && true)) true f refl);
        long = h;
      }
  stepped (pushed false) f h = record { list = L; stage = together (not (equal && false)) true f refl; long = h }
  stepped (measured true true) f h =
      record {
        list = formed-take n (length l - 1) l L;
        stage = f;
        long = (let i = length-take-le (length l - 1) l (omega arith) in omega arith);
      }
  stepped (measured true false) f h = absurd (true≢false (sym (both (not (equal && true)) false f).1))
  stepped (measured false true) f h = absurd (true≢false (sym (both (not (equal && false)) false f).1))
  stepped (measured false false) f h = record { list = L; stage = f; long = h }
  stepped (popped taken longer) f h = record { list = L; stage = f; long = h }

-- ---- a move is a step of one half

pub moved-is : (k : ℕ) (r : Relay) (i : ℕ) → moved k r i ≡ relay_after k r i (half_at r i)
unfolding moved move_first move_second
moved-is k r i = go (half_at r i)
  where
    go : (b : Bool) → cond b (move_second k r i (job_at r i)) (move_first k r i (job_at r i)) ≡ relay_after k r i b
    go true = refl
    go false = refl

-- an offer of two unequal nodes is an entry that a list can hold
pub offer-formed : (n : ℕ) (b : Bool) (j : Job) → Parts n j → equal_nodes j ≡ false → entry_formed n (entry_of b j) ≡ true
offer-formed n false j p h = entry-formed n j.v j.distance p.v_in (near_fit n j p h)
offer-formed n true j p h = entry-formed n j.u j.distance p.u_in (near_fit n j p h)

pub offer-held : (b : Bool) (j : Job) → Holdable j.distance → Holdable (entry_of b j).distance
offer-held false j h = h
offer-held true j h = h

module _ {n k : ℕ} (r : Relay) (F : Formed n k r) (i : ℕ) (h : i < length r.jobs) (b : Bool) (half : is_popped (job_at r i).first ≡ b) where
  abbrev j : Job
  j = job_at r i

  abbrev t : ℕ
  t = target b (job_at r i)

  -- the list that the step leaves, and the stage
  abbrev l' : List Neighbor
  l' = next_list (entry_of b (job_at r i)) (found r i b) (stage_of b (job_at r i))

  abbrev s' : Stage
  s' = next_stage k (equal_nodes (job_at r i)) (entry_of b (job_at r i)) (found r i b) (stage_of b (job_at r i))

  -- what the others, and the job's other half, have to pop from a list
  abbrev more : ℕ → ℕ
  more w = pending_beside w b (job_at r i) + pending_at w (others i r.jobs)

  pub job-formed : JobFormed n (job_at r i)
  job-formed = all-at (JobFormed n) r.jobs i no_job F.jobs h

  P : Parts n j
  P = parts n j job-formed.formed

  pub target_below : target b (job_at r i) < n
  target_below = target_in n b j P

  pending-before : (w : ℕ) → pending_at w r.jobs ≡ cond (eqb t w) (pending (stage_of b j)) 0 + more w
  pending-before w =
      let a = pending-others w r.jobs i h in
      let c = pending-at_stage w b j in
      omega arith

  pending-after : (w : ℕ) → pending_at w (relay_after k r i b).jobs ≡ cond (eqb t w) (pending s') 0 + more w
  pending-after w =
      let j' = with_stage b j s' in
      let a = pending-others w (set r.jobs i j') i (let e = length-set r.jobs i j' in omega arith) in
      let c = pending_staged w b j s' in
      let d = ap (pending_job w) (get_or-set_same r.jobs i j' no_job h) in
      let o = ap (pending_at w) (others-set r.jobs i j') in
      omega arith

  long-before : length (found r i b) ≡ k + (pending (stage_of b j) + more t)
  long-before = F.lengths t target_below ∙ ap (λ (x : ℕ). k + x) (pending-before t ∙ rw (eq-eqb t t refl))

  pub room-before : k + pending (stage_of b (job_at r i)) ≤ length (found r i b)
  room-before = let a = long-before in omega arith

  step : Stepped n k (more t) (equal_nodes j) (entry_of b j) (found r i b) (stage_of b j)
  step =
      stepped n k (more t) (equal_nodes j) (entry_of b j) (found r i b) (offer-held b j job-formed.held) (offer-formed n b j P) (F.lists t target_below)
      (stage_of b j) (stage_parts n b j P) long-before

  -- the lists afterwards
  pub list-after : list_at (relay_after k r i b).lists (target b (job_at r i)) ≡ next_list (entry_of b (job_at r i)) (found r i b) (stage_of b (job_at r i))
  list-after = get_or-set_same r.lists t l' [] (let x = target_below in let y = F.nodes in omega arith)

  pub other_after : (w : ℕ) → eqb (target b (job_at r i)) w ≡ false → list_at (relay_after k r i b).lists w ≡ list_at r.lists w
  other_after w e = get_or-set_other r.lists t w l' [] (λ (q : w ≡ t). eqb-false t w e (sym q))

  list_of : (w : ℕ) → w < n → (c : Bool) → eqb t w ≡ c → ListFormed n (list_at (relay_after k r i b).lists w)
  list_of w wn true e =
      subst (λ (x : ℕ). ListFormed n (list_at (relay_after k r i b).lists x)) (eqb-true t w e) (subst (ListFormed n) (sym list-after) step.list)
  list_of w wn false e = subst (ListFormed n) (sym (other_after w e)) (F.lists w wn)

  long_of : (w : ℕ) → w < n → (c : Bool) → eqb t w ≡ c → length (list_at (relay_after k r i b).lists w) ≡ k + pending_at w (relay_after k r i b).jobs
  long_of w wn true e =
      subst (λ (x : ℕ). length (list_at (relay_after k r i b).lists x) ≡ k + pending_at x (relay_after k r i b).jobs) (eqb-true t w e)
      (ap length list-after ∙ step.long
      ∙ ap (λ (x : ℕ). k + x) (ap (λ (c : Bool). cond c (pending s') 0 + more t) (sym (eq-eqb t t refl)) ∙ sym (pending-after t)))
  long_of w wn false e =
      let a = ap length (other_after w e) in
      let p = pending-before w ∙ ap (λ (c : Bool). cond c (pending (stage_of b j)) 0 + more w) e in
      let q = pending-after w ∙ ap (λ (c : Bool). cond c (pending s') 0 + more w) e in
      let f = F.lengths w wn in
      omega arith

  pub after-formed : Formed n k (relay_after k r i b)
  after-formed =
      let e = length-set r.jobs i (job_after k r i b) in
      record {
        nodes = length-set r.lists t l' ∙ F.nodes;
        lists = λ (w : ℕ) (wn : w < n). list_of w wn (eqb t w) refl;
        lengths = λ (w : ℕ) (wn : w < n). long_of w wn (eqb t w) refl;
        some = (let f = F.some in omega arith);
        few = (let f = F.few in omega arith);
        jobs = all_set (JobFormed n) r.jobs i (job_after k r i b) F.jobs (staged n b j s' half job-formed step.stage);
      }

pub moved-formed : {n k : ℕ} (r : Relay) → Formed n k r → (i : ℕ) → i < length r.jobs → Formed n k (moved k r i)
moved-formed {n} {k} r F i h = subst (Formed n k) (sym (moved-is k r i)) (after-formed r F i h (half_at r i) refl)
