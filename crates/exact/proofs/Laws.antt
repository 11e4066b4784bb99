-- Laws of step 1 over plain lists: the distances of a node to others, the nodes offered, the list turned round. Assumes nothing.
use mathlib.Core.Path.{◌≡◌, refl, sym, ap, subst, ◌∙◌}
use mathlib.Core.Bool.{Bool, true, false, cond, not}
use mathlib.Core.List.{List, [], ◌∷◌, ◌++◌, map, reverse, append-nil, map-append}
use Prim.Native.Nat.{ℕ, zero, suc, ◌+◌, ◌-◌, ◌*◌, ◌≤◌, ◌<◌, zero-le, suc-le-suc, min}
use native.Mathlib.Nat.{le_of_suc-le-suc, not-suc-le-zero}
use native.Mathlib.Numerals.{add-one}
use native.Mathlib.Omega.{arith}
use lib.Dec.{T, eqb, ltb, leb}
use lib.ListN.{length, take, drop, get_or, length-append, length-map, length-reverse, get_or-append}
use lib.Seq.{take-nil, take_at, drop_at, take_all, length-take-le}
use lib.Ieee.{Float, nan, lt}
use borrow.Author.Tests.{ltb-false, eqb-true, eqb-false, eq-eqb, ne_eqb, leb-true, le-leb, lt-leb}
use Rattle.rules.specs.declared.Neighbor.{Neighbor}
use Rattle.rules.specs.Loops.{through, over}
use Rattle.rules.specs.Lists.{neighbor, node_of, nodes_of, entries, insert, place, insert_all, sort, least}
use Rattle.rules.specs.Distance.{before, between}
use Rattle.rules.specs.Rows.{empty_distance}
use Rattle.neighbor.specs.Holdable.{Holdable}
use Rattle.neighbor.proofs.Bits.{holdable_between, within_empty}
use Rattle.neighbor.proofs.Order.{asymmetric}
use Rattle.rules.specs.Build.{Between, entry, others, exact_list}
use Rattle.rules.proofs.Loops.{length-ones, get_d_ones}
use Rattle.lists.specs.All.{All}
use Rattle.lists.specs.Lists.{PushedCut}
use Rattle.lists.specs.Ascending.{AllHoldable, Ascending}
use Rattle.lists.proofs.Laws.{take-insert, sort-append, length-least, place-le, place-behind, holdable_at, holdable_take, holdable_sort, ascending-take, ascending-sort}
use Rattle.lists.proofs.Slices.{length-entries, get_d_entries, nodes_of-entries, pushed_none}
use Rattle.lists.proofs.Plain.{drop-later, all_append, all_take, all-reverse, all_map, all_weaker, all-sort, all_holdable, map_same}
use Rattle.exact.specs.Exact.{distances_from, always, apart_in, HoldsRow, Other, farthest, Offered, Gathered, Listed, Exact}

-- ---- the distances of a node to all

pub length-distances : (d : Between) (n q : ℕ) → length (distances_from d n q) ≡ n
unfolding distances_from
length-distances d n q = length-ones (d q) n

pub get_d_distances : (d : Between) (n q i : ℕ) (z : Float) → i < n → get_or (distances_from d n q) i z ≡ d q i
unfolding distances_from
get_d_distances d n q i z h = get_d_ones (d q) n i z h

-- written over a row, they are what is read from it
read-distances : (d : Between) (n q i : ℕ) (row : List Float) → i < n → apart_in 1 0 (over n (distances_from d n q) row) q i ≡ d q i
unfolding over
read-distances d n q i row h =
    let m = length-distances d n q in
    let same : i * 1 + 0 ≡ i = omega arith in
    ap (λ (j : ℕ). get_or (over n (distances_from d n q) row) j nan) same
    ∙ ap (λ (l : List Float). get_or (l ++ drop n row) i nan) (take_all n (distances_from d n q) (omega arith))
    ∙ get_or-append (distances_from d n q) (drop n row) nan i (omega arith)
    ∙ get_d_distances d n q i nan h

pub holds-distances : (lanes : List Float) (dimension n q : ℕ) (row row' : List Float) → row' ≡ over n (distances_from (between lanes dimension) n q) row → HoldsRow 1 0 row' n
holds-distances lanes dimension n q row row' e i h =
    let d = between lanes dimension in
    rw (ap (λ (x : List Float). apart_in 1 0 x q i) e ∙ read-distances d n q i row h) (holdable_between lanes dimension q i)

-- ---- the distances of a node to some

module _ (f : ℕ → Float) (vs : List ℕ) (len : ℕ) (h : len ≤ length vs) where
  pub length_some : length (map f (take len vs)) ≡ len
  length_some = length-map (take len vs) f ∙ length-take-le len vs h

-- beside their nodes they are entries
entries-front : (d : Between) (q len : ℕ) (vs : List ℕ) (tail : List Float) → len ≤ length vs → entries len vs (take len (map (d q) (take len vs)) ++ tail) ≡ map (entry d q) (take len vs)
unfolding entries
entries-front d q zero vs tail h = refl
entries-front d q (suc len) [] tail h = absurd (not-suc-le-zero h)
entries-front d q (suc len) (v ∷ vs) tail h = ap (λ (l : List Neighbor). entry d q v ∷ l) (entries-front d q len vs tail (le_of_suc-le-suc h))

pub entries-some : (d : Between) (q len : ℕ) (vs : List ℕ) (ds : List Float) → len ≤ length vs → entries len vs (over len (map (d q) (take len vs)) ds) ≡ map (entry d q) (take len vs)
unfolding over
entries-some d q len vs ds h = entries-front d q len vs (drop len ds) h

-- ---- the others

pub others-each : (q n : ℕ) → All (Other n q) (others q n)
unfolding others
others-each q zero = tt
others-each q (suc n) =
    all_append (Other (suc n) q) (others q n) (cond (eqb n q) [] (n ∷ []))
    (all_weaker (Other n q) (Other (suc n) q) (λ (i : ℕ) (h : Other n q i). (let l = h.0 in omega arith, h.1)) (others q n) (others-each q n))
    (go (eqb n q) refl)
  where
    go : (b : Bool) → eqb n q ≡ b → All (Other (suc n) q) (cond b [] (n ∷ []))
    go true e = tt
    go false e = ((omega arith, eqb-false n q e), tt)

length-fewer : (q n : ℕ) → n ≤ q → length (others q n) ≡ n
unfolding others
length-fewer q zero h = refl
length-fewer q (suc n) h =
    let ih = length-fewer q n (omega arith) in
    rw (ne_eqb n q (λ (e : n ≡ q). omega arith)) (length-append (others q n) (n ∷ []) ∙ omega arith)

pub length-others : (q n : ℕ) → q < n → length (others q n) ≡ n - 1
unfolding others
length-others q zero h = absurd (not-suc-le-zero h)
length-others q (suc n) h = go (eqb n q) refl (length-others q n)
  where
    go : (b : Bool) → eqb n q ≡ b → (q < n → length (others q n) ≡ n - 1) → length (others q n ++ cond b [] (n ∷ [])) ≡ suc n - 1
    go true e ih =
        let same = eqb-true n q e in
        let m = length-fewer q n (omega arith) in
        length-append (others q n) [] ∙ omega arith
    go false e ih =
        let other = eqb-false n q e in
        let m = ih (omega arith) in
        length-append (others q n) (n ∷ []) ∙ omega arith

-- ---- where an entry goes, by a look at the last

place-to : (e : Neighbor) (xs : List Neighbor) (i : ℕ) (z : Neighbor) → i < length xs → before e (get_or xs i z) ≡ true → place e xs ≤ i
unfolding place
place-to e [] i z h b = absurd (not-suc-le-zero h)
place-to e (x ∷ xs) zero z h b = rw b (zero-le)
place-to e (x ∷ xs) (suc i) z h b = go (before e x) (place-to e xs i z (le_of_suc-le-suc h) b)
  where
    go : (t : Bool) → place e xs ≤ i → cond t zero (suc (place e xs)) ≤ suc i
    go true l = zero-le
    go false l = suc-le-suc l

module _ (ns : List ℕ) (ds : List Float) (len k : ℕ) (e : Neighbor) (one : 1 ≤ k) (l : len ≤ k) (h : len ≤ length ns) (g : len ≤ length ds) where
  pub behind-short : len < k → false ≡ leb k (place e (entries len ns ds))
  behind-short m =
      let long = length-entries len ns ds h g in
      let at = place-le e (entries len ns ds) in
      sym (lt-leb k (place e (entries len ns ds)) (omega arith))

  pub behind-not : (a : ℕ) (d : Float) → k ≤ len → before e (neighbor (get_or ns (len - 1) a) (get_or ds (len - 1) d)) ≡ true → false ≡ leb k (place e (entries len ns ds))
  behind-not a d m b =
      let long = length-entries len ns ds h g in
      let same = get_d_entries len (len - 1) ns ds a d e (omega arith) h g in
      let at = place-to e (entries len ns ds) (len - 1) e (omega arith) (ap (before e) same ∙ b) in
      sym (lt-leb k (place e (entries len ns ds)) (omega arith))

  pub behind-last : (a : ℕ) (d : Float) → k ≤ len → Holdable e.distance → AllHoldable (entries len ns ds) → Ascending (entries len ns ds)
      → before e (neighbor (get_or ns (len - 1) a) (get_or ds (len - 1) d)) ≡ false → true ≡ leb k (place e (entries len ns ds))
  behind-last a d m E X s b =
      let long = length-entries len ns ds h g in
      let same = get_d_entries len (len - 1) ns ds a d e (omega arith) h g in
      let at = place-behind e (entries len ns ds) (len - 1) e E X s (omega arith) (ap (before e) same ∙ b) in
      sym (le-leb k (place e (entries len ns ds)) (omega arith))

  -- the look at the last decides
  pub behind-looked : (a : ℕ) (d : Float) → k ≤ len → Holdable e.distance → AllHoldable (entries len ns ds) → Ascending (entries len ns ds)
      → (b : Bool) → b ≡ before e (neighbor (get_or ns (len - 1) a) (get_or ds (len - 1) d)) → not b ≡ leb k (place e (entries len ns ds))
  behind-looked a d m E X s true q = behind-not a d m (sym q)
  behind-looked a d m E X s false q = behind-last a d m E X s (sym q)

-- ---- one node offered

module _ {d : Between} {q i k : ℕ} {ns : List ℕ} {ds : List Float} {len : ℕ} (l : len ≤ k) where
  pub offered_self : i ≡ q → Offered d q i k ns ds len ns ds len
  offered_self e =
      record { list = rw (eq-eqb i q e); more = omega arith; within = l; nodes_rest = refl; dists_rest = refl; nodes_long = refl; dists_long = refl }

  pub offered-other : {ns' : List ℕ} {ds' : List Float} {r : ℕ} → (i ≡ q → ⊥) → PushedCut ns ds len k (entry d q i) ns' ds' r → Offered d q i k ns ds len ns' ds' r
  offered-other e made =
      let count = made.count in
      record {
        list = rw (ne_eqb i q e) made.list;
        more = omega arith;
        within = made.within;
        nodes_rest = made.nodes_rest;
        dists_rest = made.dists_rest;
        nodes_long = made.nodes_long;
        dists_long = made.dists_long;
      }

-- what goes behind the least k changes nothing
pub offered-behind : {d : Between} {q i k : ℕ} {ns : List ℕ} {ds : List Float} {len : ℕ} → len ≤ k → k ≤ length ns → k ≤ length ds → (i ≡ q → ⊥)
    → leb k (place (entry d q i) (entries len ns ds)) ≡ true → Offered d q i k ns ds len ns ds len
offered-behind {d} {q} {i} {k} {ns} {ds} {len} l h g e b =
    let long = length-entries len ns ds (omega arith) (omega arith) in
    let within = place-le (entry d q i) (entries len ns ds) in
    offered-other l e (pushed_none l h g (record { at = refl; within = omega arith }) (leb-true k (place (entry d q i) (entries len ns ds)) b))

-- so does what is farther than the farthest
module _ {ns : List ℕ} {ds : List Float} {len k : ℕ} where
  pub offered_farther : (x : Float) {q i : ℕ} → 1 ≤ k → len ≤ k → k ≤ length ns → k ≤ length ds → Holdable x → AllHoldable (entries len ns ds) → Ascending (entries len ns ds)
      → lt (farthest ds len k) x ≡ true → Offered (always x) q i k ns ds len ns ds len
  unfolding farthest before
  offered_farther x {q} {i} one l h g X A S b = self (eqb i q) refl
    where
      e : Neighbor
      e = neighbor i x

      last : Neighbor
      last = neighbor (get_or ns (len - 1) 0) (get_or ds (len - 1) nan)

      behind : (t : Bool) → ltb len k ≡ t → lt (cond t empty_distance (get_or ds (len - 1) nan)) x ≡ true → leb k (place e (entries len ns ds)) ≡ true
      behind true f c = absurd (subst T (sym c ∙ within_empty x X) tt)
      behind false f c =
          let full = ltb-false len k f in
          let long = length-entries len ns ds (omega arith) (omega arith) in
          let same = get_d_entries len (len - 1) ns ds 0 nan e (omega arith) (omega arith) (omega arith) in
          let held : Holdable last.distance = rw same at (holdable_at (entries len ns ds) (len - 1) e A (omega arith)) in
          let first : before last e ≡ true = rw c in
          sym (behind-last ns ds len k e one l (omega arith) (omega arith) 0 nan full X A S (asymmetric last e held X first))

      self : (t : Bool) → eqb i q ≡ t → Offered (always x) q i k ns ds len ns ds len
      self true f = offered_self l (eqb-true i q f)
      self false f = offered-behind l h g (eqb-false i q f) (behind (ltb len k) refl b)

-- a distance that is the same offers the same
pub offered-same : {d e : Between} {q i k : ℕ} {ns : List ℕ} {ds : List Float} {len : ℕ} {ns' : List ℕ} {ds' : List Float} {r : ℕ} → d q i ≡ e q i
    → Offered d q i k ns ds len ns' ds' r → Offered e q i k ns ds len ns' ds' r
offered-same {d} {e} {q} {i} {k} {ns} {ds} {len} same made =
    record {
      list = made.list ∙ ap (λ (x : Float). cond (eqb i q) (entries len ns ds) (take k (insert (neighbor i x) (entries len ns ds)))) same;
      more = made.more;
      within = made.within;
      nodes_rest = made.nodes_rest;
      dists_rest = made.dists_rest;
      nodes_long = made.nodes_long;
      dists_long = made.dists_long;
    }

-- ---- the nodes below i offered: the least k of them are held

pub least_more : (k : ℕ) (es : List Neighbor) (e : Neighbor) → least k (es ++ (e ∷ [])) ≡ take k (insert e (least k es))
unfolding least insert_all through
least_more k es e = ap (take k) (sort-append es (e ∷ [])) ∙ sym (take-insert k e (sort es))

least-others : (d : Between) (q k i : ℕ) → least k (map (entry d q) (others q (suc i))) ≡ cond (eqb i q) (least k (map (entry d q) (others q i))) (take k (insert (entry d q i) (least k (map (entry d q) (others q i)))))
unfolding others
least-others d q k i = go (eqb i q)
  where
    go : (b : Bool) → least k (map (entry d q) (others q i ++ cond b [] (i ∷ []))) ≡ cond b (least k (map (entry d q) (others q i))) (take k (insert (entry d q i) (least k (map (entry d q) (others q i)))))
    go true = ap (λ (l : List ℕ). least k (map (entry d q) l)) (append-nil (others q i))
    go false = ap (least k) (map-append (entry d q) (others q i) (i ∷ [])) ∙ least_more k (map (entry d q) (others q i)) (entry d q i)

pub gathered_none : {d : Between} {k q : ℕ} {ns : List ℕ} {ds : List Float} → Gathered d 0 k q ns ds ns ds 0
unfolding entries others least sort insert_all through
gathered_none {d} {k} {q} = record { list = sym (take-nil k); within = zero-le; nodes_rest = refl; dists_rest = refl; nodes_long = refl; dists_long = refl }

pub gathered_turn : {d : Between} {k q i : ℕ} {ns₀ : List ℕ} {ds₀ : List Float} {ns : List ℕ} {ds : List Float} {len : ℕ} {ns' : List ℕ} {ds' : List Float} {r : ℕ}
    → Gathered d i k q ns₀ ds₀ ns ds len → Offered d q i k ns ds len ns' ds' r → Gathered d (i + 1) k q ns₀ ds₀ ns' ds' r
gathered_turn {d} {k} {q} {i} {ns₀} {ds₀} {ns} {ds} {len} {ns'} {ds'} {r} inv made =
    record {
      list =
          rw add-one
          (made.list ∙ ap (λ (l : List Neighbor). cond (eqb i q) l (take k (insert (entry d q i) l))) inv.list ∙ sym (least-others d q k i));
      within = made.within;
      nodes_rest = made.nodes_rest ∙ drop-later len r ns ns₀ made.more inv.nodes_rest;
      dists_rest = made.dists_rest ∙ drop-later len r ds ds₀ made.more inv.dists_rest;
      nodes_long = made.nodes_long ∙ inv.nodes_long;
      dists_long = made.dists_long ∙ inv.dists_long;
    }

-- what is held can be held, and ascends
pub gathered_ascends : (d : Between) {n k q i : ℕ} {ns₀ : List ℕ} {ds₀ : List Float} {ns : List ℕ} {ds : List Float} {len : ℕ} → ((j : ℕ) → j < n → Holdable (d q j)) → i ≤ n
    → Gathered d i k q ns₀ ds₀ ns ds len → AllHoldable (entries len ns ds) × Ascending (entries len ns ds)
unfolding least
gathered_ascends d {n} {k} {q} {i} holds l inv =
    let es = map (entry d q) (others q i) in
    let Q : Neighbor → Type 0 = λ (e : Neighbor). Holdable e.distance in
    let held = all_holdable es
    (all_map Q (entry d q) (others q i)
    (all_weaker (Other i q) (λ (j : ℕ). Holdable (d q j)) (λ (j : ℕ) (h : Other i q j). holds j (let m = h.0 in omega arith)) (others q i) (others-each q i))) in
    rw inv.list (holdable_take k (sort es) (holdable_sort es held), ascending-take k (sort es) (ascending-sort es held))

-- distances that are the same of the others gather the same
entries-same : (d e : Between) (n q : ℕ) → ((i : ℕ) → i < n → d q i ≡ e q i) → map (entry d q) (others q n) ≡ map (entry e q) (others q n)
entries-same d e n q same =
    map_same (entry d q) (entry e q) (others q n)
    (all_weaker (Other n q) (λ (i : ℕ). entry d q i ≡ entry e q i) (λ (i : ℕ) (h : Other n q i). ap (neighbor i) (same i h.0)) (others q n) (others-each q n))

gathered_same : {d e : Between} {n k q : ℕ} {ns : List ℕ} {ds : List Float} {ns' : List ℕ} {ds' : List Float} {r : ℕ}
    → ((i : ℕ) → i < n → d q i ≡ e q i) → Gathered d n k q ns ds ns' ds' r → Gathered e n k q ns ds ns' ds' r
gathered_same {d} {e} {n} {k} {q} same made =
    record {
      list = made.list ∙ ap (least k) (entries-same d e n q same);
      within = made.within;
      nodes_rest = made.nodes_rest;
      dists_rest = made.dists_rest;
      nodes_long = made.nodes_long;
      dists_long = made.dists_long;
    }

-- ---- the exact list

-- its members are other nodes below n
pub exact_each : (d : Between) (n k q : ℕ) → All (Other n q) (exact_list d n k q)
unfolding exact_list nodes_of least
exact_each d n k q =
    let Q : Neighbor → Type 0 = λ (e : Neighbor). Other n q (node_of e) in
    let es = map (entry d q) (others q n) in
    all-reverse (Other n q) (map node_of (take k (sort es)))
    (all_map (Other n q) node_of (take k (sort es)) (all_take Q k (sort es) (all-sort Q es (all_map Q (entry d q) (others q n) (others-each q n)))))

length_found : (d : Between) (n k q : ℕ) → q < n → length (least k (map (entry d q) (others q n))) ≡ min k (n - 1)
length_found d n k q h =
    length-least k (map (entry d q) (others q n)) ∙ ap (min k) (length-map (others q n) (entry d q) ∙ length-others q n h)

pub length_exact : (d : Between) (n k q : ℕ) → q < n → length (exact_list d n k q) ≡ min k (n - 1)
unfolding exact_list nodes_of
length_exact d n k q h =
    length-reverse (map node_of (least k (map (entry d q) (others q n))))
    ∙ length-map (least k (map (entry d q) (others q n))) node_of ∙ length_found d n k q h

-- distances that are the same of the others give the same list
pub exact_same : (d e : Between) (n k q : ℕ) → ((i : ℕ) → i < n → d q i ≡ e q i) → exact_list d n k q ≡ exact_list e n k q
unfolding exact_list
exact_same d e n k q same = ap (λ (es : List Neighbor). reverse (nodes_of (least k es))) (entries-same d e n q same)

pub length_turned : {A : Type 0} (xs : List A) (len : ℕ) → len ≤ length xs → length (reverse (take len xs)) ≡ len
length_turned xs len h = length-reverse (take len xs) ∙ length-take-le len xs h

module _ {d : Between} {n k q : ℕ} {ns : List ℕ} {ds : List Float} {out : List ℕ} {ns' : List ℕ} {ds' : List Float} {out' : List ℕ} {r : ℕ} where
  pub listed : q < n → k ≤ length ns → k ≤ length ds → Gathered d n k q ns ds ns' ds' r → out' ≡ over r (reverse (take r ns')) out → length out' ≡ length out
      → Listed d n k q ns ds out ns' ds' out' r
  unfolding over exact_list
  listed below h g work f out_long =
      let within = work.within in
      let u = work.nodes_long in
      let v = work.dists_long in
      let long = length-entries r ns' ds' (omega arith) (omega arith) in
      let fewest : r ≡ min k (n - 1) = sym long ∙ ap length work.list ∙ length_found d n k q below in
      let turned = length_turned ns' r (omega arith) in
      let front : take r (reverse (take r ns')) ≡ reverse (take r ns') = take_all r (reverse (take r ns')) (omega arith) in
      record {
        list =
            ap (take r) f ∙ take_at (take r (reverse (take r ns'))) (drop r out) r (ap length front ∙ turned) ∙ front
            ∙ ap reverse (sym (nodes_of-entries r ns' ds' (omega arith)) ∙ ap nodes_of work.list);
        count = fewest ∙ sym (length_exact d n k q below);
        fewest = fewest;
        out_rest = ap (drop r) f ∙ drop_at (take r (reverse (take r ns'))) (drop r out) r (ap length front ∙ turned);
        out_long = out_long;
        work = work;
      }

  pub listed_same : {e : Between} → ((i : ℕ) → i < n → d q i ≡ e q i) → Listed d n k q ns ds out ns' ds' out' r → Listed e n k q ns ds out ns' ds' out' r
  listed_same {e} same made =
      let lists = exact_same d e n k q same in
      record {
        list = made.list ∙ lists;
        count = made.count ∙ ap length lists;
        fewest = made.fewest;
        out_rest = made.out_rest;
        out_long = made.out_long;
        work = gathered_same same made.work;
      }

pub exact : {d : Between} {n k q : ℕ} {row : List Float} {ns : List ℕ} {ds : List Float} {out : List ℕ} {row' : List Float} {ns' : List ℕ} {ds' : List Float} {out' : List ℕ} {r : ℕ}
    → row' ≡ over n (distances_from d n q) row → length row' ≡ length row → Listed (apart_in 1 0 row') n k q ns ds out ns' ds' out' r → Exact d n k q row ns ds out row' ns' ds' out' r
exact {d} {n} {k} {q} {row} e row_long found =
    let made = listed_same {e = d} (λ (i : ℕ) (l : i < n). ap (λ (x : List Float). apart_in 1 0 x q i) e ∙ read-distances d n q i row l) found in
    record {
      list = made.list;
      count = made.count;
      fewest = made.fewest;
      out_rest = made.out_rest;
      out_long = made.out_long;
      distances = e;
      row_long = row_long;
      work = made.work;
    }

pub exact_listed : {d : Between} {n k q : ℕ} {row : List Float} {ns : List ℕ} {ds : List Float} {out : List ℕ} {row' : List Float} {ns' : List ℕ} {ds' : List Float} {out' : List ℕ} {r : ℕ}
    → Exact d n k q row ns ds out row' ns' ds' out' r → Listed d n k q ns ds out ns' ds' out' r
exact_listed made =
    record { list = made.list; count = made.count; fewest = made.fewest; out_rest = made.out_rest; out_long = made.out_long; work = made.work }
