-- Well-formed entries and lists, tested from the front on. Assumes nothing.
use mathlib.Core.Path.{◌≡◌, refl, sym, ap, ◌∙◌}
use mathlib.Core.Bool.{Bool, true, false, cond, not, ◌&&◌}
use mathlib.Core.List.{List, [], ◌∷◌, ◌++◌}
use Prim.Native.Nat.{ℕ, zero, suc, ◌+◌, ◌-◌, ◌*◌, ◌≤◌, ◌<◌}
use native.Mathlib.Nat.{not-suc-le-zero}
use native.Mathlib.Numerals.{add-one}
use native.Mathlib.Omega.{arith}
use borrow.Author.Tests.{ltb-true, ltb-false}
use lib.Dec.{eqb, ltb}
use lib.ListN.{length, take, drop, get_or, length-drop}
use lib.Seq.{drop-cons}
use lib.Ieee.{Float, nan, inf, fin, binary32, is_nan, to_bits}
use Rattle.std.specs.List.{list_all, zip}
use Rattle.rules.specs.declared.Neighbor.{Neighbor}
use Rattle.rules.specs.Loops.{each, part}
use Rattle.rules.specs.Distance.{before, fit}
use Rattle.rules.specs.Lists.{neighbor, node_of, entries}
use Rattle.rules.specs.Offers.{empty_bits, entry_formed, entries_formed, in_order, ascending, list_formed, lists_formed}
use Rattle.rules.specs.Places.{lists_in}
use Rattle.rules.proofs.Tests.{and-false}
use Rattle.lists.proofs.Slices.{length-entries, get_d_entries}

-- ---- one entry

pub entry_nan : (n : ℕ) (e : Neighbor) → is_nan e.distance ≡ true → entry_formed n e ≡ false
unfolding entry_formed fit to_bits is_nan
entry_nan n e h = go e.distance h (eqb (node_of e) n) (ltb (node_of e) n)
  where
    go : (x : Float) → is_nan x ≡ true → (a b : Bool) → cond a (eqb (to_bits binary32 x) empty_bits) (b && fit x) ≡ false
    go nan h true b = refl
    go nan h false true = refl
    go nan h false false = refl
    go (inf s) h a b = cc
    go (fin s m d) h a b = cc

-- ---- entries: one test for each pair of two slices

pub entries_all : (n len : ℕ) (ns : List ℕ) (ds : List Float) → list_all (λ (p : ℕ × Float). entry_formed n (neighbor p.0 p.1)) (zip (take len ns) (take len ds)) ≡ entries_formed n (entries len ns ds)
unfolding entries entries_formed
entries_all n zero ns ds = refl
entries_all n (suc i) [] ds = refl
entries_all n (suc i) (a ∷ ns) [] = refl
entries_all n (suc i) (a ∷ ns) (d ∷ ds) = ap (λ (b : Bool). entry_formed n (neighbor a d) && b) (entries_all n i ns ds)

-- ---- ascending: at place i, which must not precede the one in front of it

short-ascending : (l : List Neighbor) → length l ≤ 1 → ascending l ≡ true
unfolding ascending in_order
short-ascending [] h = refl
short-ascending (x ∷ []) h = refl
short-ascending (x ∷ y ∷ l) h = absurd (omega arith)

module _ (l : List Neighbor) (i : ℕ) where
  pub ascending_turn : (z : Neighbor) (b : Bool) → 1 ≤ i → i < length l → before (get_or l i z) (get_or l (i - 1) z) ≡ b → ascending (drop (i - 1) l) ≡ (not b && ascending (drop (i + 1 - 1) l))
  unfolding ascending in_order
  ascending_turn z b some h e =
      let one : i ≡ suc (i - 1) = omega arith in
      let next : i + 1 - 1 ≡ i = omega arith in
      let s : drop (i - 1) l ≡ get_or l (i - 1) z ∷ drop i l = drop-cons l (i - 1) z (omega arith) ∙ ap (λ (j : ℕ). get_or l (i - 1) z ∷ drop j l) (sym one) in
      let t : drop i l ≡ get_or l i z ∷ drop (suc i) l = drop-cons l i z h in
      rw (next, s, t, e)

  pub ascending-end : length l ≤ i → ascending (drop (i - 1) l) ≡ true
  ascending-end h = short-ascending (drop (i - 1) l) (simp length-drop (omega arith))

-- ---- the same of entries in two slices

module _ (n : ℕ) (ns : List ℕ) (ds : List Float) (len : ℕ) (h : len ≤ length ns) (g : len ≤ length ds) (i : ℕ) where
  -- what is tested at place i, and in front of it
  abbrev pub at : ℕ → Neighbor
  at j = neighbor (get_or ns j 0) (get_or ds j nan)

  abbrev E : List Neighbor
  E = entries len ns ds

  read : (j : ℕ) → j < len → get_or E j (neighbor 0 nan) ≡ at j
  read j l = get_d_entries len j ns ds 0 nan (neighbor 0 nan) l h g

  pub in_order_lem : (b : Bool) → ascending (drop (i - 1) E) ≡ ascending E → 1 ≤ i → i < len → before (at i) (at (i - 1)) ≡ b → ascending E ≡ (not b && ascending (drop (i + 1 - 1) E))
  in_order_lem b inv some l e =
      let long = length-entries len ns ds h g in
      sym inv
      ∙ ascending_turn E i (neighbor 0 nan) b some (omega arith)
      (ap (λ (x : Neighbor). before x (get_or E (i - 1) (neighbor 0 nan))) (read i l) ∙ ap (before (at i)) (read (i - 1) (omega arith)) ∙ e)

  pub in_order-end : ascending (drop (i - 1) E) ≡ ascending E → len ≤ i → true ≡ ascending E
  in_order-end inv l =
      let long = length-entries len ns ds h g in
      sym (ascending-end E i (omega arith)) ∙ inv

-- ---- a list

-- ---- lists one behind the other: those in front of the w-th are well formed

formed-append : (n : ℕ) (a b : List (List Neighbor)) → lists_formed n (a ++ b) ≡ (lists_formed n a && lists_formed n b)
unfolding lists_formed
formed-append n [] b = refl
formed-append n (l ∷ a) b = go (list_formed n l) (formed-append n a b)
  where
    go : (t : Bool) → lists_formed n (a ++ b) ≡ (lists_formed n a && lists_formed n b) → (t && lists_formed n (a ++ b)) ≡ ((t && lists_formed n a) && lists_formed n b)
    go true h = h
    go false h = refl

module _ (n : ℕ) (g : ℕ → List Neighbor) where
  abbrev pub lists_of : ℕ → List (List Neighbor)
  lists_of w = each (λ (i : ℕ). g i ∷ []) w

  pub lists_none : lists_formed n (lists_of 0) ≡ true
  unfolding each lists_formed
  lists_none = refl

  pub lists_turn : (w : ℕ) → lists_formed n (lists_of w) ≡ true → list_formed n (g w) ≡ true → lists_formed n (lists_of (w + 1)) ≡ true
  unfolding each lists_formed
  lists_turn w h e = rw (add-one) (formed-append n (lists_of w) (g w ∷ []) ∙ rw (h, e))

  pub lists-not : (w m : ℕ) → w < m → list_formed n (g w) ≡ false → lists_formed n (lists_of m) ≡ false
  unfolding each lists_formed
  lists-not w zero l e = absurd (not-suc-le-zero l)
  lists-not w (suc m) l e = formed-append n (lists_of m) (g m ∷ []) ∙ go (ltb w m) refl (lists-not w m)
    where
      go : (b : Bool) → ltb w m ≡ b → (w < m → list_formed n (g w) ≡ false → lists_formed n (lists_of m) ≡ false)
          → (lists_formed n (lists_of m) && (list_formed n (g m) && true)) ≡ false
      go true q ih = rw (ih (ltb-true w m q) e)
      go false q ih =
          let r = ltb-false w m q in
          let same : m ≡ w = omega arith in
          let f : list_formed n (g m) ≡ false = ap (λ (i : ℕ). list_formed n (g i)) same ∙ e in
          rw f (and-false (lists_formed n (lists_of m)))

module _ (n k : ℕ) (ns : List ℕ) (ds : List Float) where
  abbrev pub list_in : ℕ → List Neighbor
  list_in w = entries k (part k w ns) (part k w ds)

  -- the parts that are lent, m places from w times k on
  lent : (w m : ℕ) → m ≡ k → entries k (take m (drop (w * k) ns)) (take m (drop (w * k) ds)) ≡ list_in w
  unfolding part
  lent w m e = rw e

  pub formed-part-not : (w m : ℕ) → m ≡ k → w < n → list_formed n (entries k (take m (drop (w * k) ns)) (take m (drop (w * k) ds))) ≡ false → false ≡ lists_formed n (lists_in n k ns ds)
  unfolding lists_in
  formed-part-not w m e h f = sym (lists-not n list_in w n h (sym (ap (list_formed n) (lent w m e)) ∙ f))

  pub formed-part_turn : (w m : ℕ) → m ≡ k → lists_formed n (lists_of n list_in w) ≡ true → list_formed n (entries k (take m (drop (w * k) ns)) (take m (drop (w * k) ds))) ≡ true
      → lists_formed n (lists_of n list_in (w + 1)) ≡ true
  formed-part_turn w m e inv f = lists_turn n list_in w inv (sym (ap (list_formed n) (lent w m e)) ∙ f)

  pub formed-part-end : (w : ℕ) → w ≤ n → n ≤ w → lists_formed n (lists_of n list_in w) ≡ true → true ≡ lists_formed n (lists_in n k ns ds)
  unfolding lists_in
  formed-part-end w l m inv = let same : w ≡ n = omega arith in sym inv ∙ ap (λ (i : ℕ). lists_formed n (lists_of n list_in i)) same
