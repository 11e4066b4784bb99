-- A refused offer is farther than all that its list will hold, so an offer that ends in its list was reported taken up. Assumes nothing.
use mathlib.Core.Path.{◌≡◌, refl, sym, ◌∙◌, subst}
use mathlib.Core.Logic.{◌⊎◌, inl, inr}
use mathlib.Core.Bool.{Bool, true, false, not, ◌&&◌, ◌||◌, cond, true≢false}
use mathlib.Core.List.{List, [], ◌∷◌}
use Prim.Native.Nat.{ℕ, zero, suc, ◌-◌, ◌≤◌, ◌<◌}
use native.Mathlib.Nat.{le_of_suc-le-suc, not-suc-le-zero}
use native.Mathlib.Omega.{arith}
use lib.Dec.{eqb, ltb}
use lib.ListN.{length, take, get_or}
use lib.Ieee.{Float, lt, eq, binary32, to_bits}
use borrow.Author.Tests.{not-true, not-false, ltb-true, lt-ltb, eqb-true, eqb-false}
use Rattle.rules.specs.declared.Neighbor.{Neighbor}
use Rattle.rules.specs.Loops.{through}
use Rattle.rules.specs.Distance.{before, zero32}
use Rattle.rules.specs.Lists.{neighbor, node_of, insert, insert_all}
use Rattle.rules.specs.Search.{farthest}
use Rattle.rules.specs.Offers.{look}
use Rattle.rules.specs.Relay.{Stage, fresh, looked, pushed, measured, popped, is_popped, taken_of, Job, Relay, next_stage, equal_nodes, is_finished, job_at, moved}
use Rattle.rules.proofs.Tests.{both}
use Rattle.neighbor.specs.Holdable.{Holdable}
use Rattle.neighbor.proofs.Bits.{bits-lt, bits-eq}
use Rattle.neighbor.proofs.Order.{total}
use Rattle.lists.specs.Ascending.{AllHoldable, Ascending}
use Rattle.lists.specs.All.{All}
use Rattle.lists.proofs.Laws.{holdable_insert, length-insert}
use Rattle.lists.proofs.Plain.{all-at, all_take}
use Rattle.relay_kept.specs.Formed.{Formed}
use Rattle.relay_kept.specs.Halves.{target, entry_of, stage_of, half_at, found, job_after}
use Rattle.relay_kept.proofs.Kept.{moved-formed, job-formed, target_below, room-before, offer-held}
use Rattle.orders.specs.Steps.{look_takes, left}
use Rattle.orders.specs.Runs.{ran}
use Rattle.orders.proofs.Kept.{moved_keeps}
use Rattle.orders.proofs.Waiting.{held-left}
use Rattle.orders.proofs.Runs.{Aims, ran_keeps, moved_length, moved_same, moved_other}

-- nearer than x
abbrev pub Near : Float → Neighbor → Type 0
Near x e = lt e.distance x ≡ true

-- ---- pushes bring the first k no farther away

near_before : (x : Float) (a b : Neighbor) → Holdable x → Holdable a.distance → Holdable b.distance → before a b ≡ true → Near x b → Near x a
unfolding before
near_before x a b X A B h n = go (lt a.distance b.distance) (eq a.distance b.distance) (ltb (node_of a) (node_of b)) refl refl h
  where
    v : to_bits binary32 b.distance < to_bits binary32 x
    v = ltb-true (to_bits binary32 b.distance) (to_bits binary32 x) (sym (bits-lt b.distance x B X) ∙ n)

    go : (p q r : Bool) → lt a.distance b.distance ≡ p → eq a.distance b.distance ≡ q → (p || (q && r)) ≡ true → Near x a
    go true q r e f g =
        let u = ltb-true (to_bits binary32 a.distance) (to_bits binary32 b.distance) (sym (bits-lt a.distance b.distance A B) ∙ e) in
        let w = v in
        bits-lt a.distance x A X ∙ lt-ltb (to_bits binary32 a.distance) (to_bits binary32 x) (omega arith)
    go false true r e f g =
        let u = eqb-true (to_bits binary32 a.distance) (to_bits binary32 b.distance) (sym (bits-eq a.distance b.distance A B) ∙ f) in
        let w = v in
        bits-lt a.distance x A X ∙ lt-ltb (to_bits binary32 a.distance) (to_bits binary32 x) (omega arith)
    go false false r e f g = absurd (true≢false (sym g))

near_insert : (k : ℕ) (x : Float) (e : Neighbor) (l : List Neighbor) → Holdable x → Holdable e.distance → AllHoldable l → k ≤ length l
    → All (Near x) (take k l) → All (Near x) (take k (insert e l))
unfolding insert
near_insert zero x e l X E L h N = tt
near_insert (suc k) x e [] X E L h N = absurd (not-suc-le-zero h)
near_insert (suc k) x e (y ∷ l) X E L h N = go (before e y) refl (near_insert k x e l X E L.1 (le_of_suc-le-suc h) N.1)
  where
    shorter : (m : ℕ) (ys : List Neighbor) → All (Near x) (take (suc m) ys) → All (Near x) (take m ys)
    shorter zero ys N = tt
    shorter (suc m) [] N = tt
    shorter (suc m) (z ∷ ys) N = (N.0, shorter m ys N.1)

    go : (b : Bool) → before e y ≡ b → All (Near x) (take k (insert e l)) → All (Near x) (take (suc k) (cond b (e ∷ y ∷ l) (y ∷ insert e l)))
    go true q r = (near_before x e y X E L.0 q N.0, shorter k (y ∷ l) N)
    go false q r = (N.0, r)

near_all : (k : ℕ) (x : Float) (es l : List Neighbor) → Holdable x → AllHoldable es → AllHoldable l → k ≤ length l
    → All (Near x) (take k l) → All (Near x) (take k (insert_all es l))
unfolding insert_all through
near_all k x [] l X E L h N = N
near_all k x (e ∷ es) l X E L h N =
    let i = length-insert e l in
    near_all k x es (insert e l) X E.1 (holdable_insert e l E.0 L) (omega arith) (near_insert k x e l X E.0 L h N)

-- ---- a refused offer is farther than all that its list holds

near_earlier : (d : Float) (x y : Neighbor) → Holdable d → Holdable x.distance → Holdable y.distance → before y x ≡ false → Near d y → Near d x
near_earlier d x y D X Y h n = go (before x y) refl
  where
    go : (b : Bool) → before x y ≡ b → Near d x
    go true q = near_before d x y D X Y q n
    go false q = subst (Near d) (sym (total x y X Y q h)) n

near_last : (d : Float) (l : List Neighbor) (i : ℕ) (z : Neighbor) → Holdable d → AllHoldable l → Ascending l → suc i ≡ length l → Near d (get_or l i z) → All (Near d) l
near_last d [] i z D L S e n = tt
near_last d (x ∷ []) zero z D L S e n = (n, tt)
near_last d (x ∷ []) (suc i) z D L S e n = absurd (omega arith)
near_last d (x ∷ y ∷ l) zero z D L S e n = absurd (omega arith)
near_last d (x ∷ y ∷ l) (suc i) z D L S e n = go (near_last d (y ∷ l) i z D L.1 S.1 (omega arith) n)
  where
    go : All (Near d) (y ∷ l) → All (Near d) (x ∷ y ∷ l)
    go N = (near_earlier d x y D L.0 L.1.0 S.0.0 N.0, N)

refused_near : (e : Neighbor) (l : List Neighbor) → Holdable e.distance → AllHoldable l → Ascending l → look_takes e l ≡ false → All (Near e.distance) l
unfolding look_takes farthest
refused_near e [] E L S h = tt
refused_near e (x ∷ l) E L S h =
    let z = neighbor 0 zero32 in
    let i = length (x ∷ l) - 1 in
    near_last e.distance (x ∷ l) i z E L S (omega arith) (not-false (lt (get_or (x ∷ l) i z).distance e.distance) h)

-- ---- kept by every move

-- the offer was refused at its look
unfoldable pub refused_at : Stage → Bool
refused_at fresh = false
refused_at (looked taken) = not taken
refused_at (pushed taken) = not taken
refused_at (measured taken longer) = not taken
refused_at (popped taken longer) = not taken

-- what is refused after a step was refused before it, or the step was the look
next-refused : (k : ℕ) (e : Neighbor) (l : List Neighbor) (s : Stage) → refused_at (next_stage k false e l s) ≡ true → (look_takes e l ≡ false) ⊎ (refused_at s ≡ true)
unfolding next_stage refused_at look look_takes
next-refused k e l fresh h = inl (not-true (not (lt (farthest l) e.distance)) h)
next-refused k e l (looked taken) h = inr h
next-refused k e l (pushed taken) h = inr h
next-refused k e l (measured taken longer) h = inr h
next-refused k e l (popped taken longer) h = inr h

-- refused offers are farther than all that their lists will hold
pub record Told (n k : ℕ) (goal : ℕ → List Neighbor) (r : Relay) : Type 0 where
  pub aims : Aims n k goal r
  pub refused : (i : ℕ) (b : Bool) → i < length r.jobs → equal_nodes (job_at r i) ≡ false → refused_at (stage_of b (job_at r i)) ≡ true
      → All (Near (job_at r i).distance) (goal (target b (job_at r i)))

module _ {n k : ℕ} {goal : ℕ → List Neighbor} (r : Relay) (T : Told n k goal r) (i : ℕ) (h : i < length r.jobs) where
  F : Formed n k r
  F = T.aims.formed

  -- of the half that moves
  moving : (b : Bool) → is_popped (job_at r i).first ≡ b → equal_nodes (job_at r i) ≡ false
      → refused_at (next_stage k (equal_nodes (job_at r i)) (entry_of b (job_at r i)) (found r i b) (stage_of b (job_at r i))) ≡ true
      → All (Near (job_at r i).distance) (goal (target b (job_at r i)))
  moving b half q f = go (next-refused k (entry_of b j) (found r i b) (stage_of b j) (subst (λ (c : Bool). refused_at (next_stage k c (entry_of b j) (found r i b) (stage_of b j)) ≡ true) q f))
    where
      j : Job
      j = job_at r i

      t : ℕ
      t = target b (job_at r i)

      same-distance : (c : Bool) → (entry_of c (job_at r i)).distance ≡ (job_at r i).distance
      same-distance false = refl
      same-distance true = refl

      go : (look_takes (entry_of b (job_at r i)) (found r i b) ≡ false) ⊎ (refused_at (stage_of b (job_at r i)) ≡ true) → All (Near (job_at r i).distance) (goal (target b (job_at r i)))
      go (inr g) = T.refused i b h q g
      go (inl g) =
          let L = F.lists (target b (job_at r i)) (target_below r F i h b half) in
          let D = (job-formed r F i h b half).held in
          let room = room-before r F i h b half in
          subst (All (Near (job_at r i).distance)) (T.aims.aims (target b (job_at r i)) (target_below r F i h b half))
          (near_all k (job_at r i).distance (left (target b (job_at r i)) r.jobs) (found r i b) D (held-left n (target b (job_at r i)) r.jobs F.jobs) L.held (omega arith)
          (all_take (Near (job_at r i).distance) k (found r i b)
          (subst (λ (x : Float). All (Near x) (found r i b)) (same-distance b)
          (refused_near (entry_of b (job_at r i)) (found r i b) (offer-held b (job_at r i) D) L.held L.ascends g))))

  -- of job i after the move, both halves
  halves : (a c : Bool) → is_popped (job_at r i).first ≡ a → equal_nodes (job_at r i) ≡ false → refused_at (stage_of c (job_after k r i a)) ≡ true
      → All (Near (job_at r i).distance) (goal (target c (job_at r i)))
  halves false false p q f = moving false p q f
  halves false true p q f = T.refused i true h q f
  halves true false p q f = T.refused i false h q f
  halves true true p q f = moving true p q f

  after_equal : (a : Bool) → equal_nodes (job_after k r i a) ≡ equal_nodes (job_at r i)
  after_equal false = refl
  after_equal true = refl

  after_goal : (a c : Bool) → All (Near (job_at r i).distance) (goal (target c (job_at r i))) → All (Near (job_after k r i a).distance) (goal (target c (job_after k r i a)))
  after_goal false false N = N
  after_goal false true N = N
  after_goal true false N = N
  after_goal true true N = N

  at-job : (c : Bool) → equal_nodes (job_after k r i (half_at r i)) ≡ false → refused_at (stage_of c (job_after k r i (half_at r i))) ≡ true
      → All (Near (job_after k r i (half_at r i)).distance) (goal (target c (job_after k r i (half_at r i))))
  at-job c q f = after_goal (half_at r i) c (halves (half_at r i) c refl (sym (after_equal (half_at r i)) ∙ q) f)

  pub moved_told : Told n k goal (moved k r i)
  moved_told =
      record {
        aims = record { formed = moved-formed r F i h; aims = λ (w : ℕ) (wn : w < n). moved_keeps r F i h w wn ∙ T.aims.aims w wn };
        refused = λ (x : ℕ) (c : Bool) (l : x < length (moved k r i).jobs). at x c (let m = moved_length k r i in omega arith) (eqb i x) refl;
      }
    where
      at : (x : ℕ) (c : Bool) → x < length r.jobs → (b : Bool) → eqb i x ≡ b → equal_nodes (job_at (moved k r i) x) ≡ false → refused_at (stage_of c (job_at (moved k r i) x)) ≡ true
          → All (Near (job_at (moved k r i) x).distance) (goal (target c (job_at (moved k r i) x)))
      at x c l true q =
          subst (λ (y : ℕ). equal_nodes (job_at (moved k r i) y) ≡ false → refused_at (stage_of c (job_at (moved k r i) y)) ≡ true → All (Near (job_at (moved k r i) y).distance) (goal (target c (job_at (moved k r i) y)))) (eqb-true i x q)
          (subst (λ (y : Job). equal_nodes y ≡ false → refused_at (stage_of c y) ≡ true → All (Near y.distance) (goal (target c y))) (sym (moved_same k r i h)) (at-job c))
      at x c l false q =
          subst (λ (y : Job). equal_nodes y ≡ false → refused_at (stage_of c y) ≡ true → All (Near y.distance) (goal (target c y))) (sym (moved_other k r i x (eqb-false i x q)))
          (T.refused x c l)

pub ran_told : {n k : ℕ} {goal : ℕ → List Neighbor} (r : Relay) (is : List ℕ) → Told n k goal r → Told n k goal (ran k is r)
ran_told {n} {k} {goal} =
    ran_keeps k (Told n k goal) (λ (r : Relay) (i : ℕ) (h : i < length r.jobs) (f : is_finished (job_at r i) ≡ false) (T : Told n k goal r). moved_told r T i h)

-- ---- at the end

refused-popped : (s : Stage) → is_popped s ≡ true → taken_of s ≡ false → refused_at s ≡ true
unfolding is_popped taken_of refused_at
refused-popped fresh h f = absurd (true≢false (sym h))
refused-popped (looked taken) h f = rw f
refused-popped (pushed taken) h f = rw f
refused-popped (measured taken longer) h f = rw f
refused-popped (popped taken longer) h f = rw f

popped_half : (b : Bool) (j : Job) → is_finished j ≡ true → is_popped (stage_of b j) ≡ true
popped_half false j h = (both (is_popped j.first) (is_popped j.second) h).0
popped_half true j h = (both (is_popped j.first) (is_popped j.second) h).1

-- an offer that stands in its list was taken up
pub taken-up : {n k : ℕ} {goal : ℕ → List Neighbor} (r : Relay) → Told n k goal r → (i : ℕ) (b : Bool) (p : ℕ) (z : Neighbor) → i < length r.jobs → equal_nodes (job_at r i) ≡ false
    → is_finished (job_at r i) ≡ true → p < length (goal (target b (job_at r i))) → get_or (goal (target b (job_at r i))) p z ≡ entry_of b (job_at r i) → taken_of (stage_of b (job_at r i)) ≡ true
taken-up {n} {k} {goal} r T i b p z h q f pn e = go (taken_of (stage_of b (job_at r i))) refl
  where
    D : Holdable (job_at r i).distance
    D = (job-formed r T.aims.formed i h (half_at r i) refl).held

    same-distance : (c : Bool) → (entry_of c (job_at r i)).distance ≡ (job_at r i).distance
    same-distance false = refl
    same-distance true = refl

    go : (c : Bool) → taken_of (stage_of b (job_at r i)) ≡ c → c ≡ true
    go true g = refl
    go false g =
        let N = T.refused i b h q (refused-popped (stage_of b (job_at r i)) (popped_half b (job_at r i) f) g) in
        let m = all-at (Near (job_at r i).distance) (goal (target b (job_at r i))) p z N pn in
        let a = subst (λ (x : Neighbor). Near (job_at r i).distance x) e m in
        let c = subst (λ (x : Float). lt x (job_at r i).distance ≡ true) (same-distance b) a in
        let u = ltb-true (to_bits binary32 (job_at r i).distance) (to_bits binary32 (job_at r i).distance) (sym (bits-lt (job_at r i).distance (job_at r i).distance D D) ∙ c) in
        absurd (omega arith)
