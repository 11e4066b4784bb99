-- An iteration's updates give the same lists in any order: the law of the relay, of offers with no other step in between. Assumes nothing.
use mathlib.Core.Path.{◌≡◌, refl, sym, ap, ◌∙◌, subst}
use mathlib.Core.Bool.{Bool, true, false, cond}
use mathlib.Core.List.{List, [], ◌∷◌, ◌++◌, append_assoc}
use Prim.Native.Nat.{ℕ, ◌≤◌, ◌<◌}
use native.Mathlib.Omega.{arith}
use lib.Dec.{eqb}
use lib.ListN.{length, take, set, length-set, length-take}
use lib.Seq.{take_all, get_or-set_same, get_or-set_other, ext_get_or}
use lib.Ieee.{Float}
use borrow.Author.Tests.{eqb-true, eqb-false}
use Rattle.rules.specs.declared.Neighbor.{Neighbor}
use Rattle.rules.specs.Loops.{through}
use Rattle.rules.specs.Lists.{neighbor, insert, insert_all, least}
use Rattle.rules.specs.Build.{Between}
use Rattle.rules.specs.Offers.{offer}
use Rattle.rules.specs.Descent.{Context, Descent, list_at, Pair, passes, offer_to, update, Met, meet, meet_all, renewed, iterated}
use Rattle.rules.proofs.Loops.{through-append}
use Rattle.neighbor.specs.Holdable.{Holdable}
use Rattle.lists.specs.Ascending.{AllHoldable, Ascending, Perm, same, next, exchange, chain}
use Rattle.lists.proofs.Perm.{perm_front, perm_end, perm_append}
use Rattle.lists.proofs.Laws.{length-insert, holdable_insert, holdable_take, ascending-insert, ascending-take, holdable_append, take-insert_all, insert_all-append, insert_all-ascending, least_perm}
use Rattle.steps.proofs.Laws.{offer-least}
use Rattle.orders.specs.Demand3.{offers_of}
use Rattle.orders.specs.Updates.{offered_by, meetings, ListsOf, AnyOrder}

module _ (d : Between) (n k : ℕ) (some : 1 ≤ k) (far : (u v : ℕ) → Holdable (d u v)) where
  -- ---- one offer

  module _ (ls : List (List Neighbor)) (L : ListsOf n k ls) (u v : ℕ) (x : Float) (X : Holdable x) where
    abbrev e : Neighbor
    e = neighbor v x

    offer-is : u < n → offer k (neighbor v x) (list_at ls u) ≡ take k (insert (neighbor v x) (list_at ls u))
    offer-is h = offer-least k e (list_at ls u) some (L.long u h) X (L.held u h) (L.ascends u h)

    offered-to : (w : ℕ) → w < n → list_at (offer_to k u v x ls) w ≡ take k (insert_all (cond (eqb u w) (neighbor v x ∷ []) []) (list_at ls w))
    unfolding offer_to insert_all through
    offered-to w wn = go (eqb u w) refl
      where
        go : (b : Bool) → eqb u w ≡ b → list_at (set ls u (offer k e (list_at ls u))) w ≡ take k (insert_all (cond b (e ∷ []) []) (list_at ls w))
        go true q =
            let y = eqb-true u w q in
            let sz = L.nodes in
            let un : u < n = omega arith in
            subst (λ (z : ℕ). list_at (set ls u (offer k e (list_at ls u))) z ≡ take k (insert e (list_at ls z))) y
            (get_or-set_same ls u (offer k e (list_at ls u)) [] (omega arith) ∙ offer-is un)
        go false q =
            let m = L.long w wn in
            get_or-set_other ls u w (offer k e (list_at ls u)) [] (λ (z : w ≡ u). eqb-false u w q (sym z)) ∙ sym (take_all k (list_at ls w) (omega arith))

    offered-lists : ListsOf n k (offer_to k u v x ls)
    unfolding offer_to
    offered-lists =
        record {
          nodes = length-set ls u (offer k e (list_at ls u)) ∙ L.nodes;
          long = λ (w : ℕ) (wn : w < n). at (λ (l : List Neighbor). length l ≡ k) w wn (L.long w wn) (λ (un : u < n). cut un);
          held = λ (w : ℕ) (wn : w < n). at AllHoldable w wn (L.held w wn) (λ (un : u < n). holdable_take k (insert e (list_at ls u)) (holdable_insert e (list_at ls u) X (L.held u un)));
          ascends = λ (w : ℕ) (wn : w < n). at Ascending w wn (L.ascends w wn) (λ (un : u < n). ascending-take k (insert e (list_at ls u)) (ascending-insert e (list_at ls u) X (L.held u un) (L.ascends u un)));
        }
      where
        cut : u < n → length (take k (insert e (list_at ls u))) ≡ k
        cut un =
            let m = L.long u un in
            let i = length-insert e (list_at ls u) in
            length-take k (insert e (list_at ls u)) ∙ omega arith

        at : (P : List Neighbor → Type 0) (w : ℕ) → w < n → P (list_at ls w) → (u < n → P (take k (insert e (list_at ls u)))) → P (list_at (set ls u (offer k e (list_at ls u))) w)
        at P w wn p f = go (eqb u w) refl
          where
            go : (b : Bool) → eqb u w ≡ b → P (list_at (set ls u (offer k e (list_at ls u))) w)
            go true q =
                let y = eqb-true u w q in
                let sz = L.nodes in
                let un : u < n = omega arith in
                subst (λ (z : ℕ). P (list_at (set ls u (offer k e (list_at ls u))) z)) y
                (subst P (sym (get_or-set_same ls u (offer k e (list_at ls u)) [] (omega arith) ∙ offer-is un)) (f un))
            go false q = subst P (sym (get_or-set_other ls u w (offer k e (list_at ls u)) [] (λ (z : w ≡ u). eqb-false u w q (sym z)))) p

  -- ---- one update

  module _ (p : Pair) (ls : List (List Neighbor)) (L : ListsOf n k ls) where
    abbrev x : Float
    x = d p.u p.v

    abbrev ls' : List (List Neighbor)
    ls' = offer_to k p.u p.v (d p.u p.v) ls

    L' : ListsOf n k ls'
    L' = offered-lists ls L p.u p.v x (far p.u p.v)

    updated : (w : ℕ) → w < n → list_at (update d k p ls) w ≡ take k (insert_all (offers_of d w p.u p.v) (list_at ls w))
    unfolding update offers_of insert_all through
    updated w wn = go (eqb p.u p.v)
      where
        a : List Neighbor
        a = cond (eqb p.u w) (neighbor p.v x ∷ []) []

        b : List Neighbor
        b = cond (eqb p.v w) (neighbor p.u x ∷ []) []

        go : (c : Bool) → list_at (cond c ls (offer_to k p.v p.u x ls')) w ≡ take k (insert_all (cond c [] (a ++ b)) (list_at ls w))
        go true = let m = L.long w wn in sym (take_all k (list_at ls w) (omega arith))
        go false =
            offered-to ls' L' p.v p.u x (far p.u p.v) w wn
            ∙ ap (λ (l : List Neighbor). take k (insert_all b l)) (offered-to ls L p.u p.v x (far p.u p.v) w wn)
            ∙ take-insert_all k b (insert_all a (list_at ls w))
            ∙ ap (take k) (sym (insert_all-append a b (list_at ls w)))

    updated_lists : ListsOf n k (update d k p ls)
    unfolding update
    updated_lists = go (eqb p.u p.v)
      where
        go : (c : Bool) → ListsOf n k (cond c ls (offer_to k p.v p.u x ls'))
        go true = L
        go false = offered-lists ls' L' p.v p.u x (far p.u p.v)

  -- ---- all updates

  all_updated : (ps : List Pair) (ls : List (List Neighbor)) → ListsOf n k ls → (w : ℕ) → w < n → list_at (through (update d k) ps ls) w ≡ take k (insert_all (offered_by d w ps) (list_at ls w))
  unfolding offered_by through insert_all
  all_updated [] ls L w wn = let m = L.long w wn in sym (take_all k (list_at ls w) (omega arith))
  all_updated (p ∷ ps) ls L w wn =
      let o = offers_of d w p.u p.v in
      all_updated ps (update d k p ls) (updated_lists p ls L) w wn
      ∙ ap (λ (l : List Neighbor). take k (insert_all (offered_by d w ps) l)) (updated p ls L w wn)
      ∙ take-insert_all k (offered_by d w ps) (insert_all o (list_at ls w))
      ∙ ap (take k) (sym (insert_all-append o (offered_by d w ps) (list_at ls w)))

  pub all-lists : (ps : List Pair) (ls : List (List Neighbor)) → ListsOf n k ls → ListsOf n k (through (update d k) ps ls)
  unfolding through
  all-lists [] ls L = L
  all-lists (p ∷ ps) ls L = all-lists ps (update d k p ls) (updated_lists p ls L)

  held-offers : (w : ℕ) (ps : List Pair) → AllHoldable (offered_by d w ps)
  unfolding offered_by offers_of
  held-offers w [] = tt
  held-offers w (p ∷ ps) =
      holdable_append (offers_of d w p.u p.v) (offered_by d w ps) (go (eqb p.u p.v) (eqb p.u w) (eqb p.v w)) (held-offers w ps)
    where
      go : (a b c : Bool) → AllHoldable (cond a [] (cond b (neighbor p.v (d p.u p.v) ∷ []) [] ++ cond c (neighbor p.u (d p.u p.v) ∷ []) []))
      go true b c = tt
      go false true true = (far p.u p.v, (far p.u p.v, tt))
      go false true false = (far p.u p.v, tt)
      go false false true = (far p.u p.v, tt)
      go false false false = tt

  module _ (ls : List (List Neighbor)) (L : ListsOf n k ls) where
    pub updates_least : (ps : List Pair) (w : ℕ) → w < n → list_at (through (update d k) ps ls) w ≡ least k (list_at ls w ++ offered_by d w ps)
    unfolding least
    updates_least ps w wn = all_updated ps ls L w wn ∙ ap (take k) (insert_all-ascending (offered_by d w ps) (list_at ls w) (L.held w wn) (L.ascends w wn))

    offers_perm : (w : ℕ) {ps qs : List Pair} → Perm ps qs → Perm (offered_by d w ps) (offered_by d w qs)
    unfolding offered_by
    offers_perm w same = same
    offers_perm w (next {x = p} q) = perm_front (offers_of d w p.u p.v) (offers_perm w q)
    offers_perm w (exchange {x = p} {y = q} {xs = ps}) =
        let a = offers_of d w p.u p.v in
        let b = offers_of d w q.u q.v in
        let o = offered_by d w ps in
        subst (λ (z : List Neighbor). Perm z (b ++ (a ++ o))) (append_assoc a b o) (subst (Perm ((a ++ b) ++ o)) (append_assoc b a o) (perm_end o (perm_append a b)))
    offers_perm w (chain p q) = chain (offers_perm w p) (offers_perm w q)

    pub updates_same : (ps qs : List Pair) → Perm ps qs → through (update d k) ps ls ≡ through (update d k) qs ls
    updates_same ps qs p =
        let a = (all-lists ps ls L).nodes in
        let b = (all-lists qs ls L).nodes in
        ext_get_or [] (through (update d k) ps ls) (through (update d k) qs ls) (a ∙ sym b) (λ (w : ℕ) (h : w < length (through (update d k) ps ls)).
        let wn : w < n = omega arith in
        updates_least ps w wn
        ∙ least_perm k (perm_front (list_at ls w) (offers_perm w p)) (holdable_append (list_at ls w) (offered_by d w ps) (L.held w wn) (held-offers w ps))
        ∙ sym (updates_least qs w wn))

  -- ---- an iteration's

  met-lists : (ps : List Pair) (m : Met) → (through (meet d n k) ps m).lists ≡ through (update d k) ps m.lists
  unfolding through meet
  met-lists [] m = refl
  met-lists (p ∷ ps) m = met-lists ps (meet d n k p m)

  pub meetings-lists : (cs : List Context) (m : Met) → (meet_all d n k cs m).lists ≡ through (update d k) (meetings cs) m.lists
  unfolding meet_all through meetings
  meetings-lists [] m = refl
  meetings-lists (c ∷ cs) m =
      meetings-lists cs (through (meet d n k) (passes c) m)
      ∙ ap (through (update d k) (meetings cs)) (met-lists (passes c) m)
      ∙ sym (through-append (update d k) (passes c) (meetings cs) m.lists)

  pub any_order : (ls : List (List Neighbor)) → ListsOf n k ls → AnyOrder d n k ls
  unfolding iterated renewed
  any_order ls L =
      record {
        lists = updates_least ls L;
        same = updates_same ls L;
        iteration = λ (draws : List ℕ) (s : ℕ) (x : Descent) (e : x.lists ≡ ls).
            meetings-lists x.contexts (record { lists = x.lists; visited = x.visited; cost = 0 }) ∙ ap (through (update d k) (meetings x.contexts)) e;
      }
