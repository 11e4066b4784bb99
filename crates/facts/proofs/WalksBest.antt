-- The best set while the entries of a row are taken: it stays ascending and as long, and what it gives up is no nearer than its farthest. Assumes nothing.
use mathlib.Core.Path.{◌≡◌, refl, sym, ap, ◌∙◌, subst}
use mathlib.Core.Logic.{◌⊎◌, inl, inr}
use mathlib.Core.Bool.{Bool, true, false, cond, true≢false, ◌||◌}
use mathlib.Core.List.{List, [], ◌∷◌, ◌++◌, map, append-nil, append_assoc}
use Prim.Native.Nat.{ℕ, suc, ◌-◌, ◌≤◌}
use native.Mathlib.Omega.{arith}
use borrow.Author.Tests.{ltb-true, ltb-false, eqb-true, eq-eqb}
use lib.Dec.{eqb}
use lib.ListN.{length, take, drop, get_or, length-take, take-append-drop}
use lib.Seq.{take_all, take-suc}
use lib.Ieee.{Float, binary32, to_bits, lt}
use Rattle.std.specs.Prelude.{Some, None}
use Rattle.rules.specs.Answers.{Distance}
use Rattle.rules.specs.declared.Neighbor.{Neighbor}
use Rattle.rules.specs.Loops.{has}
use Rattle.rules.specs.Distance.{before, zero32, carried}
use Rattle.rules.specs.Lists.{neighbor, node_of, nodes_of}
use Rattle.rules.specs.Search.{Taken, farthest, too_far, joins, take_these}
use Rattle.neighbor.specs.Holdable.{Holdable}
use Rattle.neighbor.proofs.Bits.{bits-lt}
use Rattle.lists.specs.All.{All}
use Rattle.lists.specs.Ascending.{AllHoldable, NoneBefore, Ascending}
use Rattle.lists.proofs.Laws.{length-insert, insert-is_perm, holdable_take, ascending-insert, ascending-take}
use Rattle.lists.proofs.Plain.{all_append, all-at, all_take, all_perm, all_weaker, all_holdable}
use Rattle.expand.proofs.Near.{Near, Answers, best_near, farthest-held}
use Rattle.orders.proofs.Least.{none_behind}
use Rattle.facts.specs.Different.{different}
use Rattle.facts.specs.Walks.{Measured}
use Rattle.rules.proofs.Tests.{neither}
use Rattle.facts.proofs.Different.{has-append, different-front, nodes-append}
use Rattle.facts.proofs.WalksLists.{or_right, has-insert, all_in, different_cut, different-insert}

-- a best set of m entries
pub record Best (apart : ℕ → Distance) (n m : ℕ) (xs : List Neighbor) : Type 0 where
  pub long : length xs ≡ m
  pub measured : All (Measured apart n) xs
  pub ascends : Ascending xs

-- a node that is in the best set, or no nearer than its farthest
abbrev pub Nearest : (ℕ → Distance) → List Neighbor → ℕ → Type 0
Nearest apart best v = (x : Float) → apart v ≡ Some x → (has v (nodes_of best) ≡ true) ⊎ (to_bits binary32 (farthest best) ≤ to_bits binary32 x)

-- what the entries of a row leave of the best set of t
pub record Ended (apart : ℕ → Distance) (n m : ℕ) (es : List Neighbor) (t u : Taken) : Type 0 where
  pub best : Best apart n m u.best
  pub kept : (v : ℕ) → Nearest apart t.best v → Nearest apart u.best v
  pub found : All (λ (e : Neighbor). Nearest apart u.best (node_of e)) es

-- ---- plain lists

pub all_back : {A B : Type 0} (P : B → Type 0) (f : A → B) (xs : List A) → All P (map f xs) → All (λ (a : A). P (f a)) xs
all_back P f [] X = tt
all_back P f (x ∷ xs) X = (X.0, all_back P f xs X.1)

ascending_split : (xs ys : List Neighbor) → Ascending (xs ++ ys) → All (λ (x : Neighbor). NoneBefore x ys) xs
ascending_split [] ys A = tt
ascending_split (x ∷ xs) ys A = (none_behind x xs ys A.0, ascending_split xs ys A.1)

only : (a b : Bool) → (a || (b || false)) ≡ true → a ≡ false → b ≡ true
only true b w e = absurd (true≢false e)
only false true w e = refl
only false false w e = w

-- what is in a list and not in front of its last is the last
last_of : (v : ℕ) (xs : List Neighbor) → 1 ≤ length xs → has v (nodes_of xs) ≡ true → has v (nodes_of (take (length xs - 1) xs)) ≡ false → v ≡ node_of (get_or xs (length xs - 1) (neighbor 0 zero32))
unfolding nodes_of has
last_of v xs h a b =
    let y = get_or xs (length xs - 1) (neighbor 0 zero32) in
    let whole : xs ≡ take (length xs - 1) xs ++ (y ∷ []) = sym (take_all (suc (length xs - 1)) xs (omega arith)) ∙ take-suc xs (length xs - 1) (neighbor 0 zero32) (omega arith) in
    let w : (has v (nodes_of (take (length xs - 1) xs)) || has v (nodes_of (y ∷ []))) ≡ true =
    sym (has-append v (nodes_of (take (length xs - 1) xs)) (nodes_of (y ∷ [])))
    ∙ ap (has v) (sym (nodes-append (take (length xs - 1) xs) (y ∷ [])))
    ∙ ap (λ (l : List Neighbor). has v (nodes_of l)) (sym whole)
    ∙ a in
    eqb-true v (node_of y) (only (has v (nodes_of (take (length xs - 1) xs))) (eqb v (node_of y)) w b)

-- ---- distances by their bits

pub same-distance : (d : Distance) (x y : Float) → d ≡ Some x → d ≡ Some y → x ≡ y
unfolding carried
same-distance d x y p q = ap carried (sym p ∙ q)

behind-bits : (e f : Neighbor) → Holdable e.distance → Holdable f.distance → before f e ≡ false → to_bits binary32 e.distance ≤ to_bits binary32 f.distance
unfolding before
behind-bits e f E F h =
    ltb-false (to_bits binary32 f.distance) (to_bits binary32 e.distance) (sym (bits-lt f.distance e.distance F E) ∙ (neither (lt f.distance e.distance) _ h).0)

-- where none is beyond, the farthest is not
near_bits : (far : Float) (xs : List Neighbor) → Holdable far → 1 ≤ length xs → All (Near far) xs → to_bits binary32 (farthest xs) ≤ to_bits binary32 far
unfolding farthest
near_bits far xs F h A =
    let y = get_or xs (length xs - 1) (neighbor 0 zero32) in
    let p : Near far (get_or xs (length xs - 1) (neighbor 0 zero32)) = all-at (Near far) xs (length xs - 1) (neighbor 0 zero32) A (omega arith) in
    ltb-false (to_bits binary32 far) (to_bits binary32 y.distance) (sym (bits-lt far y.distance F p.0) ∙ p.1)

module _ (apart : ℕ → Distance) (n : ℕ) (fine : Answers apart) where
  pub held : (xs : List Neighbor) → All (Measured apart n) xs → AllHoldable xs
  held xs M = all_holdable xs (all_weaker (Measured apart n) (λ (e : Neighbor). Holdable e.distance) (λ (e : Neighbor) m. fine (node_of e) e.distance m.distance) xs M)

  -- ---- nodes that are no nearer than the farthest

  nearest-at : (best : List Neighbor) (e : Neighbor) → Measured apart n e → to_bits binary32 (farthest best) ≤ to_bits binary32 e.distance → Nearest apart best (node_of e)
  nearest-at best e M h x q =
      inr (subst (λ (y : Float). to_bits binary32 (farthest best) ≤ to_bits binary32 y) (same-distance (apart (node_of e)) e.distance x M.distance q) h)

  nearest-behind : (best : List Neighbor) (e : Neighbor) (es : List Neighbor) → Measured apart n e → All (Measured apart n) es → to_bits binary32 (farthest best) ≤ to_bits binary32 e.distance
      → NoneBefore e es → All (λ (f : Neighbor). Nearest apart best (node_of f)) es
  nearest-behind best e [] M F h N = tt
  nearest-behind best e (f ∷ es) M F h N =
      let b = behind-bits e f (fine (node_of e) e.distance M.distance) (fine (node_of f) f.distance F.0.distance) N.0 in
      (nearest-at best f F.0 (omega arith), nearest-behind best e es M F.1 h N.1)

  -- the first k of an ascending list
  pub nearest-first : (k : ℕ) (xs : List Neighbor) → 1 ≤ k → 1 ≤ length xs → All (Measured apart n) xs → Ascending xs → All (λ (e : Neighbor). Nearest apart (take k xs) (node_of e)) xs
  unfolding farthest nodes_of
  nearest-first k xs some long M A =
      let whole = take-append-drop k xs in
      let cut = length-take k xs in
      let y = get_or (take k xs) (length (take k xs) - 1) (neighbor 0 zero32) in
      let none : NoneBefore y (drop k xs) =
      all-at (λ (x : Neighbor). NoneBefore x (drop k xs)) (take k xs) (length (take k xs) - 1) (neighbor 0 zero32)
      (ascending_split (take k xs) (drop k xs) (subst Ascending (sym whole) A)) (omega arith) in
      let last : Measured apart n y = all-at (Measured apart n) (take k xs) (length (take k xs) - 1) (neighbor 0 zero32) (all_take (Measured apart n) k xs M) (omega arith) in
      subst (All (λ (e : Neighbor). Nearest apart (take k xs) (node_of e))) whole
      (all_append (λ (e : Neighbor). Nearest apart (take k xs) (node_of e)) (take k xs) (drop k xs)
      (all_weaker (λ (e : Neighbor). has (node_of e) (nodes_of (take k xs)) ≡ true) (λ (e : Neighbor). Nearest apart (take k xs) (node_of e)) (λ (e : Neighbor) h (x : Float) q. inl h) (take k xs)
      (all_back (λ (v : ℕ). has v (nodes_of (take k xs)) ≡ true) node_of (take k xs) (all_in (nodes_of (take k xs)))))
      (nearest-behind (take k xs) y (drop k xs) last (all_dropped k xs M) (omega arith) none))
    where
      all_dropped : (k : ℕ) (xs : List Neighbor) → All (Measured apart n) xs → All (Measured apart n) (drop k xs)
      all_dropped k xs M = behind (take k xs) (drop k xs) (subst (All (Measured apart n)) (sym (take-append-drop k xs)) M)
        where
          behind : (ys zs : List Neighbor) → All (Measured apart n) (ys ++ zs) → All (Measured apart n) zs
          behind [] zs Z = Z
          behind (y ∷ ys) zs Z = behind ys zs Z.1

  -- ---- an entry joins

  module _ (m : ℕ) (some : 1 ≤ m) where
    best-joins : (e : Neighbor) (t : Taken) → Measured apart n e → Best apart n m t.best → Best apart n m (joins e t).best
    unfolding joins
    best-joins e t M B =
        let a = length-insert e (take (length t.best - 1) t.best) in
        let b = length-take (length t.best - 1) t.best in
        let l = B.long in
        record {
          long = omega arith;
          measured = all_perm (Measured apart n) (insert-is_perm e (take (length t.best - 1) t.best)) (M, all_take (Measured apart n) (length t.best - 1) t.best B.measured);
          ascends =
              ascending-insert e (take (length t.best - 1) t.best) (fine (node_of e) e.distance M.distance)
              (holdable_take (length t.best - 1) t.best (held t.best B.measured))
              (ascending-take (length t.best - 1) t.best B.ascends);
        }

    near_joins : (far : Float) (e : Neighbor) (t : Taken) → Near far e → All (Near far) t.best → All (Near far) (joins e t).best
    unfolding joins
    near_joins far e t N A = all_perm (Near far) (insert-is_perm e (take (length t.best - 1) t.best)) (N, all_take (Near far) (length t.best - 1) t.best A)

    closer : (e : Neighbor) (t : Taken) → Measured apart n e → Best apart n m t.best → too_far e t.best ≡ false → to_bits binary32 (farthest (joins e t).best) ≤ to_bits binary32 (farthest t.best)
    closer e t M B h =
        let l = B.long in
        let j = best-joins e t M B in
        let k = j.long in
        let H = held t.best B.measured in
        near_bits (farthest t.best) (joins e t).best (farthest-held t.best (omega arith) H) (omega arith)
        (near_joins (farthest t.best) e t (fine (node_of e) e.distance M.distance, h) (best_near t.best (omega arith) H B.ascends))

    -- what was in the best set or no nearer than its farthest is so still
    still : (e : Neighbor) (t : Taken) (v : ℕ) → Measured apart n e → Best apart n m t.best → too_far e t.best ≡ false → Nearest apart t.best v → Nearest apart (joins e t).best v
    unfolding joins farthest
    still e t v M B h N x q = go (N x q)
      where
        cut : (b : Bool) → has v (nodes_of (take (length t.best - 1) t.best)) ≡ b → has v (nodes_of t.best) ≡ true
            → (has v (nodes_of (joins e t).best) ≡ true) ⊎ (to_bits binary32 (farthest (joins e t).best) ≤ to_bits binary32 x)
        cut true a g = inl (has-insert v e (take (length t.best - 1) t.best) ∙ or_right (eqb v (node_of e)) (has v (nodes_of (take (length t.best - 1) t.best))) a)
        cut false a g =
            let l = B.long in
            let y = get_or t.best (length t.best - 1) (neighbor 0 zero32) in
            let last = all-at (Measured apart n) t.best (length t.best - 1) (neighbor 0 zero32) B.measured (omega arith) in
            let here : v ≡ node_of y = last_of v t.best (omega arith) g a in
            let d : y.distance ≡ x = same-distance (apart v) y.distance x (ap apart here ∙ last.distance) q in
            inr (subst (λ (w : Float). to_bits binary32 (farthest (joins e t).best) ≤ to_bits binary32 w) d (closer e t M B h))

        go : (has v (nodes_of t.best) ≡ true) ⊎ (to_bits binary32 (farthest t.best) ≤ to_bits binary32 x)
            → (has v (nodes_of (joins e t).best) ≡ true) ⊎ (to_bits binary32 (farthest (joins e t).best) ≤ to_bits binary32 x)
        go (inl g) = cut (has v (nodes_of (take (length t.best - 1) t.best))) refl g
        go (inr g) = let c = closer e t M B h in inr (omega arith)

    joined : (e : Neighbor) (t : Taken) → Nearest apart (joins e t).best (node_of e)
    unfolding joins
    joined e t x q =
        inl (has-insert (node_of e) e (take (length t.best - 1) t.best) ∙ ap (λ (b : Bool). b || has (node_of e) (nodes_of (take (length t.best - 1) t.best))) (eq-eqb (node_of e) (node_of e) refl))

    beyond : (e : Neighbor) (t : Taken) → Measured apart n e → Best apart n m t.best → too_far e t.best ≡ true → to_bits binary32 (farthest t.best) ≤ to_bits binary32 e.distance
    beyond e t M B h =
        let l = B.long in
        let F = farthest-held t.best (omega arith) (held t.best B.measured) in
        let less = ltb-true (to_bits binary32 (farthest t.best)) (to_bits binary32 e.distance) (sym (bits-lt (farthest t.best) e.distance F (fine (node_of e) e.distance M.distance)) ∙ h) in
        omega arith

    -- ---- the entries of a row

    pub these : (es : List Neighbor) (t : Taken) → All (Measured apart n) es → Ascending es → Best apart n m t.best → Ended apart n m es t (take_these es t)
    unfolding take_these
    these [] t M A B = record { best = B; kept = λ (v : ℕ) N. N; found = tt }
    these (e ∷ es) t M A B = go (too_far e t.best) refl (these es (joins e t) M.1 A.1 (best-joins e t M.0 B))
      where
        go : (b : Bool) → too_far e t.best ≡ b → Ended apart n m es (joins e t) (take_these es (joins e t)) → Ended apart n m (e ∷ es) t (cond b t (take_these es (joins e t)))
        go true h q =
            let far = beyond e t M.0 B h in
            record {
              best = B;
              kept = λ (v : ℕ) N. N;
              found = (nearest-at t.best e M.0 far, nearest-behind t.best e es M.0 M.1 far A.0);
            }
        go false h q =
            record {
              best = q.best;
              kept = λ (v : ℕ) N. q.kept v (still e t v M.0 B h N);
              found = (q.kept (node_of e) (joined e t), q.found);
            }

-- ---- what holds of each entry, of each node of the queue

pub these_best : (P : Neighbor → Type 0) (es : List Neighbor) (t : Taken) → All P es → All P t.best → All P (take_these es t).best
unfolding take_these joins
these_best P [] t E B = B
these_best P (e ∷ es) t E B =
    go (too_far e t.best)
    (these_best P es (joins e t) E.1 (all_perm P (insert-is_perm e (take (length t.best - 1) t.best)) (E.0, all_take P (length t.best - 1) t.best B)))
  where
    go : (b : Bool) → All P (take_these es (joins e t)).best → All P (cond b t (take_these es (joins e t))).best
    go true q = B
    go false q = q

pub these_queue : (P : ℕ → Type 0) (es : List Neighbor) (t : Taken) → All P (nodes_of es) → All P t.queue → All P (take_these es t).queue
unfolding take_these joins nodes_of
these_queue P [] t E Q = Q
these_queue P (e ∷ es) t E Q = go (too_far e t.best) (these_queue P es (joins e t) E.1 (all_append P t.queue (node_of e ∷ []) Q (E.0, tt)))
  where
    go : (b : Bool) → All P (take_these es (joins e t)).queue → All P (cond b t (take_these es (joins e t))).queue
    go true q = Q
    go false q = q

-- ---- none twice

pub these_different : (es : List Neighbor) (t : Taken) → different (nodes_of (t.best ++ es)) ≡ true → different (nodes_of (take_these es t).best) ≡ true
unfolding take_these joins
these_different [] t d = ap (λ (l : List Neighbor). different (nodes_of l)) (sym (append-nil t.best)) ∙ d
these_different (e ∷ es) t d =
    go (too_far e t.best)
    (these_different es (joins e t) (different-insert e (take (length t.best - 1) t.best) es (different_cut (length t.best - 1) t.best (e ∷ es) d)))
  where
    go : (b : Bool) → different (nodes_of (take_these es (joins e t)).best) ≡ true → different (nodes_of (cond b t (take_these es (joins e t))).best) ≡ true
    go true q = different-front (nodes_of t.best) (nodes_of (e ∷ es)) (ap different (sym (nodes-append t.best (e ∷ es))) ∙ d)
    go false q = q

pub these_once : (es : List Neighbor) (t : Taken) → different (t.queue ++ nodes_of es) ≡ true → different (take_these es t).queue ≡ true
unfolding take_these joins nodes_of
these_once [] t d = ap different (sym (append-nil t.queue)) ∙ d
these_once (e ∷ es) t d = go (too_far e t.best) (these_once es (joins e t) (ap different (append_assoc t.queue (node_of e ∷ []) (nodes_of es)) ∙ d))
  where
    go : (b : Bool) → different (take_these es (joins e t)).queue ≡ true → different (cond b t (take_these es (joins e t))).queue ≡ true
    go true q = different-front t.queue (nodes_of (e ∷ es)) d
    go false q = q
