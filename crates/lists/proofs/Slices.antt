-- Laws of a list in two slices: its entries, the search for a place, how a place is made free, and what each function leaves. Assumes nothing.
use mathlib.Core.Path.{◌≡◌, refl, sym, ap, ◌∙◌}
use mathlib.Core.Bool.{true, false}
use mathlib.Core.List.{List, [], ◌∷◌, ◌++◌}
use Prim.Native.Nat.{ℕ, zero, suc, ◌+◌, ◌-◌, ◌≤◌, ◌<◌, zero-le, min}
use native.Mathlib.Nat.{le_of_suc-le-suc, not-suc-le-zero, suc-add, add-suc, add-zero}
use native.Mathlib.Numerals.{add-one, sub-one}
use native.Mathlib.Omega.{arith}
use lib.ListN.{length, take, drop, get_or, set, drop_of_length-le, length-set}
use lib.Seq.{take_all, take-set-le, drop-cons}
use lib.Ieee.{Float}
use Rattle.rules.specs.declared.Neighbor.{Neighbor}
use Rattle.rules.specs.Loops.{through}
use Rattle.rules.specs.Distance.{before, zero32}
use Rattle.rules.specs.Lists.{neighbor, node_of, nodes_of, distances_of, entries, insert, place, insert_all, sort}
use Rattle.lists.specs.Lists.{hole, PlaceFound, PushedCut, Pushed, Popped, SortedIn}
use Rattle.lists.proofs.Laws.{place_here, place-later, place-nil, insert-place, length-insert, put_cut, take_min, take-before}

-- ---- entries

pub length-entries : (n : ℕ) (ns : List ℕ) (ds : List Float) → n ≤ length ns → n ≤ length ds → length (entries n ns ds) ≡ n
unfolding entries
length-entries zero ns ds h k = refl
length-entries (suc n) [] ds h k = absurd (not-suc-le-zero h)
length-entries (suc n) (a ∷ ns) [] h k = absurd (not-suc-le-zero k)
length-entries (suc n) (a ∷ ns) (d ∷ ds) h k = ap suc (length-entries n ns ds (le_of_suc-le-suc h) (le_of_suc-le-suc k))

-- from place i on: the entry at i, and the rest
pub drop-entries : (n i : ℕ) (ns : List ℕ) (ds : List Float) (a : ℕ) (d : Float) → i < n → n ≤ length ns → n ≤ length ds
    → drop i (entries n ns ds) ≡ neighbor (get_or ns i a) (get_or ds i d) ∷ drop (suc i) (entries n ns ds)
unfolding entries
drop-entries zero i ns ds a d l h k = absurd (not-suc-le-zero l)
drop-entries (suc n) i [] ds a d l h k = absurd (not-suc-le-zero h)
drop-entries (suc n) i (x ∷ ns) [] a d l h k = absurd (not-suc-le-zero k)
drop-entries (suc n) zero (x ∷ ns) (y ∷ ds) a d l h k = refl
drop-entries (suc n) (suc i) (x ∷ ns) (y ∷ ds) a d l h k =
    drop-entries n i ns ds a d (le_of_suc-le-suc l) (le_of_suc-le-suc h) (le_of_suc-le-suc k)

-- only the first n places of the slices matter
pub entries-take : (n : ℕ) (ns : List ℕ) (ds : List Float) → entries n (take n ns) (take n ds) ≡ entries n ns ds
unfolding entries
entries-take zero ns ds = refl
entries-take (suc n) [] ds = refl
entries-take (suc n) (a ∷ ns) [] = refl
entries-take (suc n) (a ∷ ns) (d ∷ ds) = ap (λ (l : List Neighbor). neighbor a d ∷ l) (entries-take n ns ds)

pub entries-same : (n : ℕ) (ns ns' : List ℕ) (ds ds' : List Float) → take n ns ≡ take n ns' → take n ds ≡ take n ds' → entries n ns ds ≡ entries n ns' ds'
entries-same n ns ns' ds ds' h k =
    sym (entries-take n ns ds) ∙ ap (λ (l : List ℕ). entries n l (take n ds)) h ∙ ap (entries n (take n ns')) k ∙ entries-take n ns' ds'

-- what follows the first n places does not matter
entries-front : (n : ℕ) (ns ns' : List ℕ) (ds ds' : List Float) → n ≤ length ns → n ≤ length ds
    → entries n (take n ns ++ ns') (take n ds ++ ds') ≡ entries n ns ds
unfolding entries
entries-front zero ns ns' ds ds' h k = refl
entries-front (suc n) [] ns' ds ds' h k = absurd (not-suc-le-zero h)
entries-front (suc n) (a ∷ ns) ns' [] ds' h k = absurd (not-suc-le-zero k)
entries-front (suc n) (a ∷ ns) ns' (d ∷ ds) ds' h k =
    ap (λ (l : List Neighbor). neighbor a d ∷ l) (entries-front n ns ns' ds ds' (le_of_suc-le-suc h) (le_of_suc-le-suc k))

-- fewer entries are the first of more
pub take-entries : (m n : ℕ) (ns : List ℕ) (ds : List Float) → m ≤ n → take m (entries n ns ds) ≡ entries m ns ds
unfolding entries
take-entries zero n ns ds h = refl
take-entries (suc m) zero ns ds h = absurd (not-suc-le-zero h)
take-entries (suc m) (suc n) [] ds h = refl
take-entries (suc m) (suc n) (a ∷ ns) [] h = refl
take-entries (suc m) (suc n) (a ∷ ns) (d ∷ ds) h = ap (λ (l : List Neighbor). neighbor a d ∷ l) (take-entries m n ns ds (le_of_suc-le-suc h))

pub entries-suc : (n : ℕ) (ns : List ℕ) (ds : List Float) (a : ℕ) (d : Float) → n < length ns → n < length ds
    → entries (suc n) ns ds ≡ entries n ns ds ++ (neighbor (get_or ns n a) (get_or ds n d) ∷ [])
unfolding entries
entries-suc n [] ds a d h k = absurd (not-suc-le-zero h)
entries-suc n (x ∷ ns) [] a d h k = absurd (not-suc-le-zero k)
entries-suc zero (x ∷ ns) (y ∷ ds) a d h k = refl
entries-suc (suc n) (x ∷ ns) (y ∷ ds) a d h k =
    ap (λ (l : List Neighbor). neighbor x y ∷ l) (entries-suc n ns ds a d (le_of_suc-le-suc h) (le_of_suc-le-suc k))

pub get_d_entries : (n i : ℕ) (ns : List ℕ) (ds : List Float) (a : ℕ) (d : Float) (z : Neighbor) → i < n → n ≤ length ns → n ≤ length ds
    → get_or (entries n ns ds) i z ≡ neighbor (get_or ns i a) (get_or ds i d)
unfolding entries
get_d_entries zero i ns ds a d z l h k = absurd (not-suc-le-zero l)
get_d_entries (suc n) i [] ds a d z l h k = absurd (not-suc-le-zero h)
get_d_entries (suc n) i (x ∷ ns) [] a d z l h k = absurd (not-suc-le-zero k)
get_d_entries (suc n) zero (x ∷ ns) (y ∷ ds) a d z l h k = refl
get_d_entries (suc n) (suc i) (x ∷ ns) (y ∷ ds) a d z l h k =
    get_d_entries n i ns ds a d z (le_of_suc-le-suc l) (le_of_suc-le-suc h) (le_of_suc-le-suc k)

-- the slices of the entries, and back
pub nodes_of-entries : (n : ℕ) (ns : List ℕ) (ds : List Float) → n ≤ length ds → nodes_of (entries n ns ds) ≡ take n ns
unfolding entries nodes_of
nodes_of-entries zero ns ds h = refl
nodes_of-entries (suc n) [] ds h = refl
nodes_of-entries (suc n) (x ∷ ns) [] h = absurd (not-suc-le-zero h)
nodes_of-entries (suc n) (x ∷ ns) (y ∷ ds) h = ap (λ (l : List ℕ). x ∷ l) (nodes_of-entries n ns ds (le_of_suc-le-suc h))

pub distances_of-entries : (n : ℕ) (ns : List ℕ) (ds : List Float) → n ≤ length ns → distances_of (entries n ns ds) ≡ take n ds
unfolding entries distances_of
distances_of-entries zero ns ds h = refl
distances_of-entries (suc n) [] ds h = absurd (not-suc-le-zero h)
distances_of-entries (suc n) (x ∷ ns) [] h = refl
distances_of-entries (suc n) (x ∷ ns) (y ∷ ds) h = ap (λ (l : List Float). y ∷ l) (distances_of-entries n ns ds (le_of_suc-le-suc h))

pub entries_of : (es : List Neighbor) → entries (length es) (nodes_of es) (distances_of es) ≡ es
unfolding entries nodes_of distances_of
entries_of [] = refl
entries_of (e ∷ es) = ap (λ (l : List Neighbor). e ∷ l) (entries_of es)

-- ---- the search for a place from the front: i entries are passed

pub record Passed (ns : List ℕ) (ds : List Float) (len : ℕ) (e : Neighbor) (i : ℕ) : Type 0 where
  pub within : i ≤ len
  pub left : place e (entries len ns ds) ≡ i + place e (drop i (entries len ns ds))

module _ {ns : List ℕ} {ds : List Float} {len : ℕ} {e : Neighbor} {i : ℕ} (inv : Passed ns ds len e i) (h : len ≤ length ns) (k : len ≤ length ds) where
  pub passed_here : (a : ℕ) (d : Float) → i < len → before e (neighbor (get_or ns i a) (get_or ds i d)) ≡ true → PlaceFound ns ds len e i
  passed_here a d l b =
      let x = neighbor (get_or ns i a) (get_or ds i d) in
      let E = entries len ns ds in
      record {
        at =
            sym (inv.left ∙ ap (λ (l : List Neighbor). i + place e l) (drop-entries len i ns ds a d l h k)
            ∙ ap (λ (n : ℕ). i + n) (place_here e x (drop (suc i) E) b) ∙ add-zero i);
        within = inv.within;
      }

  pub passed_turn : (a : ℕ) (d : Float) → i < len → before e (neighbor (get_or ns i a) (get_or ds i d)) ≡ false → Passed ns ds len e (i + 1)
  passed_turn a d l b =
      let x = neighbor (get_or ns i a) (get_or ds i d) in
      let E = entries len ns ds in
      record {
        within = omega arith;
        left =
            rw add-one
            (inv.left ∙ ap (λ (l : List Neighbor). i + place e l) (drop-entries len i ns ds a d l h k)
            ∙ ap (λ (n : ℕ). i + n) (place-later e x (drop (suc i) E) b)
            ∙ add-suc i (place e (drop (suc i) E)) ∙ sym (suc-add i (place e (drop (suc i) E))));
      }

  pub passed-end : len ≤ i → PlaceFound ns ds len e len
  passed-end l =
      let E = entries len ns ds in
      let long = length-entries len ns ds h k in
      let within = inv.within in
      let all : len ≡ i = omega arith in
      record {
        at =
            all ∙ sym (inv.left ∙ ap (λ (l : List Neighbor). i + place e l) (drop_of_length-le E {i = i} (omega arith))
            ∙ ap (λ (n : ℕ). i + n) (place-nil e) ∙ add-zero i);
        within = omega arith;
      }

-- ---- a place is made free, from the end down

module _ {A : Type 0} where
  pub hole_none : (n : ℕ) (xs : List A) → n < length xs → hole n n xs ≡ xs
  unfolding hole
  hole_none n [] h = absurd (not-suc-le-zero h)
  hole_none zero (x ∷ xs) h = refl
  hole_none (suc n) (x ∷ xs) h = ap (λ (l : List A). x ∷ l) (hole_none n xs (le_of_suc-le-suc h))

  hole-step : (j n : ℕ) (xs : List A) (z : A) → j < n → n < length xs
      → set (hole (suc j) n xs) (suc j) (get_or (hole (suc j) n xs) j z) ≡ hole j n xs
  unfolding hole
  hole-step j n [] z h k = absurd (not-suc-le-zero k)
  hole-step j zero (x ∷ xs) z h k = absurd (not-suc-le-zero h)
  hole-step zero (suc n) (x ∷ []) z h k = absurd (not-suc-le-zero (le_of_suc-le-suc k))
  hole-step zero (suc n) (x ∷ y ∷ xs) z h k = refl
  hole-step (suc j) (suc n) (x ∷ xs) z h k = ap (λ (l : List A). x ∷ l) (hole-step j n xs z (le_of_suc-le-suc h) (le_of_suc-le-suc k))

  -- a turn of the loop, with the code's `i - 1`
  pub hole_turn : (i n : ℕ) (xs ys : List A) (z : A) → 0 < i → i ≤ n → n < length xs → ys ≡ hole i n xs
      → set ys i (get_or ys (i - 1) z) ≡ hole (i - 1) n xs
  hole_turn zero n xs ys z l h k e = absurd (not-suc-le-zero l)
  hole_turn (suc j) n xs ys z l h k e = rw (sub-one, e) (hole-step j n xs z h k)

  length-hole : (p n : ℕ) (xs : List A) → p ≤ n → n < length xs → length (hole p n xs) ≡ length xs
  unfolding hole
  length-hole p n [] h k = absurd (not-suc-le-zero k)
  length-hole zero zero (x ∷ xs) h k = refl
  length-hole zero (suc n) (x ∷ []) h k = absurd (not-suc-le-zero (le_of_suc-le-suc k))
  length-hole zero (suc n) (x ∷ y ∷ xs) h k = ap suc (length-hole zero n (y ∷ xs) zero-le (le_of_suc-le-suc k))
  length-hole (suc p) zero (x ∷ xs) h k = absurd (not-suc-le-zero h)
  length-hole (suc p) (suc n) (x ∷ xs) h k = ap suc (length-hole p n xs (le_of_suc-le-suc h) (le_of_suc-le-suc k))

  drop-hole : (p n : ℕ) (a : A) (xs : List A) → p ≤ n → n < length xs → drop (suc n) (set (hole p n xs) p a) ≡ drop (suc n) xs
  unfolding hole
  drop-hole p n a [] h k = absurd (not-suc-le-zero k)
  drop-hole zero zero a (x ∷ xs) h k = refl
  drop-hole zero (suc n) a (x ∷ []) h k = absurd (not-suc-le-zero (le_of_suc-le-suc k))
  drop-hole zero (suc n) a (x ∷ y ∷ xs) h k = drop-hole zero n a (y ∷ xs) zero-le (le_of_suc-le-suc k)
  drop-hole (suc p) zero a (x ∷ xs) h k = absurd (not-suc-le-zero h)
  drop-hole (suc p) (suc n) a (x ∷ xs) h k = drop-hole p n a xs (le_of_suc-le-suc h) (le_of_suc-le-suc k)

-- both slices, with the place free and then filled
entries-put : (p n : ℕ) (ns : List ℕ) (ds : List Float) (a : ℕ) (d : Float) → p ≤ n → n < length ns → n < length ds
    → entries (suc n) (set (hole p n ns) p a) (set (hole p n ds) p d) ≡ take p (entries n ns ds) ++ neighbor a d ∷ drop p (entries n ns ds)
unfolding entries hole
entries-put p n [] ds a d h k l = absurd (not-suc-le-zero k)
entries-put p n (x ∷ ns) [] a d h k l = absurd (not-suc-le-zero l)
entries-put zero n (x ∷ ns) (y ∷ ds) a d h k l =
    ap (λ (r : List Neighbor). neighbor a d ∷ r)
    (entries-front n (x ∷ ns) (drop n ns) (y ∷ ds) (drop n ds) (omega (arith, k)) (omega (arith, l)))
entries-put (suc p) zero (x ∷ ns) (y ∷ ds) a d h k l = absurd (not-suc-le-zero h)
entries-put (suc p) (suc n) (x ∷ ns) (y ∷ ds) a d h k l =
    ap (λ (r : List Neighbor). neighbor x y ∷ r)
    (entries-put p n ns ds a d (le_of_suc-le-suc h) (le_of_suc-le-suc k) (le_of_suc-le-suc l))

-- ---- what the functions leave

module _ {ns : List ℕ} {ds : List Float} {len k : ℕ} {e : Neighbor} {p : ℕ} (l : len ≤ k) (h : k ≤ length ns) (g : k ≤ length ds) (found : PlaceFound ns ds len e p) where
  -- where it goes behind the least k nothing changes
  pub pushed_none : k ≤ p → PushedCut ns ds len k e ns ds len
  pushed_none q =
      let E = entries len ns ds in
      let long = length-entries len ns ds (omega arith) (omega arith) in
      record {
        count = omega arith;
        within = l;
        list = sym (take-before k e E (omega arith) ∙ take_all k E (omega arith));
        nodes_rest = refl;
        dists_rest = refl;
        nodes_long = refl;
        dists_long = refl;
      }

  -- otherwise its place is made free and filled
  pub pushed_cut : (m : ℕ) (ns' : List ℕ) (ds' : List Float) → p < k → m ≡ min len (k - 1) → ns' ≡ hole p m ns → ds' ≡ hole p m ds
      → PushedCut ns ds len k e (set ns' p (node_of e)) (set ds' p e.distance) (m + 1)
  pushed_cut m ns' ds' q c f i =
      let E = entries len ns ds in
      let within = found.within in
      let u : p ≤ m = omega arith in
      let v : m < length ns = omega arith in
      let w : m < length ds = omega arith in
      let long = length-entries len ns ds (omega arith) (omega arith) in
      let more = length-insert e E in
      record {
        count = omega arith;
        within = omega arith;
        list =
            rw (f, i, add-one)
            (entries-put p m ns ds (node_of e) e.distance u v w
            ∙ ap (λ (xs : List Neighbor). take p xs ++ e ∷ drop p xs) (sym (take-entries m len ns ds (omega arith)))
            ∙ sym (put_cut p m e E u)
            ∙ ap (λ (n : ℕ). take (suc m) (take n E ++ e ∷ drop n E)) found.at
            ∙ ap (take (suc m)) (insert-place e E)
            ∙ take_min (suc m) k (insert e E) (omega arith));
        nodes_rest = rw (f, add-one) (drop-hole p m (node_of e) ns u v);
        dists_rest = rw (i, add-one) (drop-hole p m e.distance ds u w);
        nodes_long = simp (length-set, f) (length-hole p m ns u v);
        dists_long = simp (length-set, i) (length-hole p m ds u w);
      }

-- a list that is kept to one more than there were loses none
pub pushed-all : {ns : List ℕ} {ds : List Float} {len : ℕ} {e : Neighbor} {ns' : List ℕ} {ds' : List Float} {r : ℕ} → len < length ns → len < length ds
    → PushedCut ns ds len (len + 1) e ns' ds' r → Pushed ns ds len e ns' ds' r
pushed-all {ns} {ds} {len} {e} {ns'} {ds'} {r} h g cut =
    let E = entries len ns ds in
    let long = length-entries len ns ds (omega arith) (omega arith) in
    let more = length-insert e E in
    record {
      count = omega arith;
      list = cut.list ∙ take_all (len + 1) (insert e E) (omega arith);
      nodes_rest = cut.nodes_rest;
      dists_rest = cut.dists_rest;
      nodes_long = cut.nodes_long;
      dists_long = cut.dists_long;
    }

pub popped : {ns : List ℕ} {ds : List Float} {len : ℕ} → 1 ≤ len → len ≤ length ns → len ≤ length ds
    → Popped ns ds len (set ns (len - 1) 0) (set ds (len - 1) zero32) (len - 1)
popped {ns} {ds} {len} l h k =
    let r = len - 1 in
    record {
      count = omega arith;
      nodes = refl;
      dists = refl;
      list =
          entries-same r (set ns r 0) ns (set ds r zero32) ds (take-set-le r ns r 0 (omega arith)) (take-set-le r ds r zero32 (omega arith))
          ∙ sym (take-entries r len ns ds (omega arith));
    }

-- ---- a sort in place: the first i entries are sorted, and to insert those that are left gives the whole sort

pub record Sorting (ns₀ : List ℕ) (ds₀ : List Float) (len : ℕ) (ns : List ℕ) (ds : List Float) (i : ℕ) : Type 0 where
  pub within : i ≤ len
  pub list : insert_all (drop i (entries len ns₀ ds₀)) (entries i ns ds) ≡ sort (entries len ns₀ ds₀)
  pub nodes_rest : drop i ns ≡ drop i ns₀
  pub dists_rest : drop i ds ≡ drop i ds₀
  pub nodes_long : length ns ≡ length ns₀
  pub dists_long : length ds ≡ length ds₀

pub sorting_none : {ns : List ℕ} {ds : List Float} {len : ℕ} → Sorting ns ds len ns ds 0
unfolding entries sort
sorting_none = record { within = zero-le; list = refl; nodes_rest = refl; dists_rest = refl; nodes_long = refl; dists_long = refl }

module _ {ns₀ : List ℕ} {ds₀ : List Float} {len : ℕ} {ns : List ℕ} {ds : List Float} {i : ℕ} (inv : Sorting ns₀ ds₀ len ns ds i) (h : len ≤ length ns₀) (k : len ≤ length ds₀) where
  pub sorting_turn : {ns' : List ℕ} {ds' : List Float} {r : ℕ} (a : ℕ) (d : Float) → i < len → Pushed ns ds i (neighbor (get_or ns i a) (get_or ds i d)) ns' ds' r → Sorting ns₀ ds₀ len ns' ds' r
  unfolding insert_all through
  sorting_turn {ns'} {ds'} {r} a d l made =
      let u = inv.nodes_long in
      let v = inv.dists_long in
      let p = sym (drop-cons ns i a (omega arith)) ∙ inv.nodes_rest ∙ drop-cons ns₀ i a (omega arith) in
      let q = sym (drop-cons ds i d (omega arith)) ∙ inv.dists_rest ∙ drop-cons ds₀ i d (omega arith) in
      let one : r ≡ suc i = made.count ∙ add-one i in
      let x = neighbor (get_or ns i a) (get_or ds i d) in
      let x₀ = neighbor (get_or ns₀ i a) (get_or ds₀ i d) in
      let same : x ≡ x₀ = cc in
      record {
        within = omega arith;
        list =
            ap (λ (j : ℕ). insert_all (drop j (entries len ns₀ ds₀)) (entries r ns' ds')) one
            ∙ ap (insert_all (drop (suc i) (entries len ns₀ ds₀))) (made.list ∙ ap (λ (y : Neighbor). insert y (entries i ns ds)) same)
            ∙ ap (λ (l : List Neighbor). insert_all l (entries i ns ds)) (sym (drop-entries len i ns₀ ds₀ a d l h k))
            ∙ inv.list;
        nodes_rest = made.nodes_rest ∙ ap (λ (j : ℕ). drop j ns) one ∙ (cc) ∙ ap (λ (j : ℕ). drop j ns₀) (sym one);
        dists_rest = made.dists_rest ∙ ap (λ (j : ℕ). drop j ds) one ∙ (cc) ∙ ap (λ (j : ℕ). drop j ds₀) (sym one);
        nodes_long = made.nodes_long ∙ u;
        dists_long = made.dists_long ∙ v;
      }

  pub sorting_end : len ≤ i → SortedIn ns₀ ds₀ len ns ds
  unfolding insert_all through
  sorting_end l =
      let within = inv.within in
      let E = entries len ns₀ ds₀ in
      let long = length-entries len ns₀ ds₀ h k in
      let all : len ≡ i = omega arith in
      record {
        list =
            ap (λ (j : ℕ). entries j ns ds) all
            ∙ ap (λ (l : List Neighbor). insert_all l (entries i ns ds)) (sym (drop_of_length-le E {i = i} (omega arith))) ∙ inv.list;
        nodes_rest = rw all inv.nodes_rest;
        dists_rest = rw all inv.dists_rest;
        nodes_long = inv.nodes_long;
        dists_long = inv.dists_long;
      }
