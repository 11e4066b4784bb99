-- The facts of an exact list: it rises strictly, holds no node twice, and is truly the nearest. Assumes nothing.
use mathlib.Core.Path.{◌≡◌, refl, sym, ap, ◌∙◌, subst}
use mathlib.Core.Bool.{Bool, true, false, cond, ◌||◌, or-true, true≢false}
use mathlib.Core.List.{List, [], ◌∷◌, ◌++◌, map, reverse-reverse, map-append, append-nil}
use Prim.Native.Nat.{ℕ, zero, suc, ◌<◌}
use native.Mathlib.Omega.{arith}
use lib.Dec.{eqb}
use lib.ListN.{take, drop, take-append-drop}
use borrow.Author.Tests.{eqb-true, eqb-false, ne_eqb}
use Rattle.rules.specs.declared.Neighbor.{Neighbor}
use Rattle.rules.specs.Loops.{has}
use Rattle.rules.specs.Distance.{before}
use Rattle.rules.specs.Lists.{node_of, nodes_of, sort, least}
use Rattle.rules.specs.Build.{Between, entry, others, exact_list}
use Rattle.rules.specs.Offers.{ascending}
use Rattle.neighbor.specs.Holdable.{Holdable}
use Rattle.neighbor.proofs.Bits.{holdable_fit}
use Rattle.neighbor.proofs.Order.{total}
use Rattle.lists.specs.All.{All}
use Rattle.lists.specs.Ascending.{AllHoldable, NoneBefore, Ascending, Perm}
use Rattle.lists.proofs.Perm.{perm_map}
use Rattle.lists.proofs.Laws.{holdable_take, holdable_sort, ascending-take, ascending-sort, sort-is_perm}
use Rattle.lists.proofs.Plain.{all_take, all_weaker, all-sort, all_map, all_holdable}
use Rattle.encoded.proofs.Rows.{all_drop}
use Rattle.exact.specs.Exact.{Other}
use Rattle.exact.proofs.Laws.{others-each, exact_each, length_exact}
use Rattle.steps.proofs.Formed.{of_ascending}
use Rattle.facts.specs.Distances.{SymmetricFit}
use Rattle.facts.specs.Different.{different}
use Rattle.facts.specs.Rising.{rising}
use Rattle.facts.specs.Exact.{backwards, ExactFacts}
use Rattle.facts.proofs.Different.{has-append, has_perm, has-each, has_none, different_perm, different-last, different-front, perm_reverse}
use Rattle.facts.proofs.Rising.{rising_of}

-- ---- the others

pub different-others : (q n : ℕ) → different (others q n) ≡ true
unfolding others different
different-others q zero = refl
different-others q (suc n) = go (eqb n q) (different-others q n)
  where
    new : has n (others q n) ≡ false
    new =
        has_none n (others q n)
        (all_weaker (Other n q) (λ (i : ℕ). n ≡ i → ⊥) (λ (i : ℕ) (o : Other n q i) (e : n ≡ i). let l = o.0 in omega arith) (others q n) (others-each q n))

    go : (b : Bool) → different (others q n) ≡ true → different (others q n ++ cond b [] (n ∷ [])) ≡ true
    go true ih = ap different (append-nil (others q n)) ∙ ih
    go false ih = different-last n (others q n) new ih

-- every node below n but q is one
pub has-others : (q n i : ℕ) → i < n → (i ≡ q → ⊥) → has i (others q n) ≡ true
unfolding others has
has-others q zero i h o = absurd (omega arith)
has-others q (suc n) i h o = has-append i (others q n) (cond (eqb n q) [] (n ∷ [])) ∙ go (eqb i n) refl (has-others q n i)
  where
    go : (b : Bool) → eqb i n ≡ b → (i < n → (i ≡ q → ⊥) → has i (others q n) ≡ true) → (has i (others q n) || has i (cond (eqb n q) [] (n ∷ []))) ≡ true
    go true e ih =
        let one = eqb-true i n e in
        rw (ne_eqb n q (λ (g : n ≡ q). o (one ∙ g)), e) (or-true (has i (others q n)))
    go false e ih = let apart = eqb-false i n e in rw (ih (omega arith) o)

-- ---- entries of q's, from their nodes

module _ (d : Between) (q : ℕ) where
  abbrev OfNode : Neighbor → Type 0
  OfNode e = entry d q (node_of e) ≡ e

  pub nodes-entries : (ns : List ℕ) → nodes_of (map (entry d q) ns) ≡ ns
  unfolding nodes_of
  nodes-entries [] = refl
  nodes-entries (v ∷ ns) = ap (λ (l : List ℕ). v ∷ l) (nodes-entries ns)

  entries-nodes : (es : List Neighbor) → All OfNode es → map (entry d q) (nodes_of es) ≡ es
  unfolding nodes_of
  entries-nodes [] E = refl
  entries-nodes (e ∷ es) E = ap (λ (x : Neighbor). x ∷ map (entry d q) (nodes_of es)) E.0 ∙ ap (λ (l : List Neighbor). e ∷ l) (entries-nodes es E.1)

  each_of : (ns : List ℕ) → All OfNode (map (entry d q) ns)
  each_of [] = tt
  each_of (v ∷ ns) = (refl, each_of ns)

  -- a fact of each entry is one of the entry of each node
  nodes-each : (P : Neighbor → Type 0) (es : List Neighbor) → All OfNode es → All P es → All (λ (v : ℕ). P (entry d q v)) (nodes_of es)
  unfolding nodes_of
  nodes-each P [] E X = tt
  nodes-each P (e ∷ es) E X = (subst P (sym E.0) X.0, nodes-each P es E.1 X.1)

-- ---- of an ascending list none of those behind the first k precedes one of these

none_behind : (k : ℕ) (x : Neighbor) (ys : List Neighbor) → NoneBefore x ys → All (λ (y : Neighbor). before y x ≡ false) (drop k ys)
none_behind zero x [] n = tt
none_behind zero x (y ∷ ys) n = (n.0, none_behind zero x ys n.1)
none_behind (suc k) x [] n = tt
none_behind (suc k) x (y ∷ ys) n = none_behind k x ys n.1

front-first : (k : ℕ) (xs : List Neighbor) → Ascending xs → All (λ (x : Neighbor). All (λ (y : Neighbor). before y x ≡ false) (drop k xs)) (take k xs)
front-first zero xs s = tt
front-first (suc k) [] s = tt
front-first (suc k) (x ∷ xs) s = (none_behind k x xs s.0, front-first k xs s.1)

-- ---- the exact list

module _ {d : Between} (S : SymmetricFit d) (n k q : ℕ) where
  abbrev all : List Neighbor
  all = sort (map (entry d q) (others q n))

  abbrev near : List ℕ
  near = nodes_of (take k all)

  abbrev far : List ℕ
  far = nodes_of (drop k all)

  holds : (i : ℕ) → Holdable (d q i)
  holds i = holdable_fit (d q i) (S.single q i) (S.fits q i)

  held : AllHoldable (map (entry d q) (others q n))
  held =
      all_holdable (map (entry d q) (others q n))
      (all_map (λ (e : Neighbor). Holdable e.distance) (entry d q) (others q n)
      (all_weaker (Other n q) (λ (i : ℕ). Holdable (d q i)) (λ (i : ℕ) (o : Other n q i). holds i) (others q n) (others-each q n)))

  in_order_lem : Ascending all
  in_order_lem = ascending-sort (map (entry d q) (others q n)) held

  of_nodes : All (OfNode d q) all
  of_nodes = all-sort (OfNode d q) (map (entry d q) (others q n)) (each_of d q (others q n))

  near_far : nodes_of all ≡ near ++ far
  unfolding nodes_of
  near_far = ap (map node_of) (sym (take-append-drop k all)) ∙ map-append node_of (take k all) (drop k all)

  perm_all : Perm (others q n) (nodes_of all)
  unfolding nodes_of
  perm_all =
      subst (λ (l : List ℕ). Perm l (nodes_of all)) (nodes-entries d q (others q n)) (perm_map node_of (sort-is_perm (map (entry d q) (others q n))))

  perm_exact : Perm near (exact_list d n k q)
  unfolding exact_list least
  perm_exact = perm_reverse near

  different_near : different near ≡ true
  different_near = different-front near far (ap different (sym near_far) ∙ sym (different_perm perm_all) ∙ different-others q n)

  backwards-is : backwards d n k q ≡ take k all
  unfolding exact_list least
  backwards-is = ap (map (entry d q)) (reverse-reverse near) ∙ entries-nodes d q (take k all) (all_take (OfNode d q) k all of_nodes)

  -- a node left out is not before one that is listed
  not-before : (i j : ℕ) → has i far ≡ true → has j near ≡ true → before (entry d q i) (entry d q j) ≡ false
  not-before i j hi hj =
      let P : Neighbor → Type 0 = λ (x : Neighbor). All (λ (y : Neighbor). before y x ≡ false) (drop k all) in
      let Q : Neighbor → Type 0 = λ (y : Neighbor). before y (entry d q j) ≡ false in
      let listed : P (entry d q j) =
      has-each j (λ (v : ℕ). P (entry d q v)) near (nodes-each d q P (take k all) (all_take (OfNode d q) k all of_nodes) (front-first k all in_order_lem)) hj in
      has-each i (λ (v : ℕ). Q (entry d q v)) far (nodes-each d q Q (drop k all) (all_drop (OfNode d q) k all of_nodes) listed) hi

  behind : (i j : ℕ) → i < n → (i ≡ q → ⊥) → has i (exact_list d n k q) ≡ false → has j (exact_list d n k q) ≡ true → before (entry d q j) (entry d q i) ≡ true
  behind i j h o out listed = go (before (entry d q j) (entry d q i)) refl
    where
      left : has i near ≡ false
      left = has_perm i perm_exact ∙ out

      in_far : has i far ≡ true
      in_far =
          ap (λ (b : Bool). b || has i far) (sym left) ∙ sym (has-append i near far) ∙ ap (has i) (sym near_far) ∙ sym (has_perm i perm_all) ∙ has-others q n i h o

      go : (b : Bool) → before (entry d q j) (entry d q i) ≡ b → b ≡ true
      go true e = refl
      go false e =
          let one : j ≡ i = ap node_of (total (entry d q j) (entry d q i) (holds j) (holds i) e (not-before i j in_far (has_perm j perm_exact ∙ listed))) in
          absurd (true≢false (sym listed ∙ ap (λ (v : ℕ). has v (exact_list d n k q)) one ∙ out))

  pub exact_facts : q < n → ExactFacts d n k q
  exact_facts h =
      let s = ascending-take k all in_order_lem in
      record {
        ascends = ap ascending backwards-is ∙ of_ascending (take k all) s;
        strictly = ap rising backwards-is ∙ rising_of (take k all) (holdable_take k all (holdable_sort (map (entry d q) (others q n)) held)) s different_near;
        long = length_exact d n k q h;
        once = sym (different_perm perm_exact) ∙ different_near;
        others =
            has_none q (exact_list d n k q)
            (all_weaker (Other n q) (λ (i : ℕ). q ≡ i → ⊥) (λ (i : ℕ) (o : Other n q i) (e : q ≡ i). o.1 (sym e)) (exact_list d n k q) (exact_each d n k q));
        below = λ (i : ℕ) (g : has i (exact_list d n k q) ≡ true). (has-each i (Other n q) (exact_list d n k q) (exact_each d n k q) g).0;
        nearest = behind;
      }
