-- What makes a list well formed, and that each step of an offer keeps it so. Assumes nothing.
use mathlib.Core.Path.{◌≡◌, refl, ap}
use mathlib.Core.Bool.{Bool, true, false, cond, not, ◌&&◌}
use mathlib.Core.List.{List, [], ◌∷◌}
use Prim.Native.Nat.{ℕ, zero, suc, ◌-◌, ◌<◌}
use native.Mathlib.Omega.{arith}
use borrow.Author.Tests.{lt-ltb, ne_eqb, eqb-true, not-true}
use lib.Dec.{T, eqb, ltb}
use lib.ListN.{length, take}
use lib.Ieee.{Float, binary32, fits, to_bits}
use Rattle.rules.specs.declared.Neighbor.{Neighbor}
use Rattle.rules.specs.Distance.{before, fit}
use Rattle.rules.specs.Lists.{neighbor, node_of, insert}
use Rattle.rules.specs.Offers.{empty_bits, entry_formed, entries_formed, in_order, ascending, list_formed, look, push, measure, pop, offer}
use Rattle.rules.proofs.Tests.{both, together}
use Rattle.neighbor.specs.Holdable.{Holdable}
use Rattle.neighbor.proofs.Bits.{holdable_fit}
use Rattle.lists.specs.All.{All}
use Rattle.lists.specs.Ascending.{AllHoldable, NoneBefore, Ascending}
use Rattle.lists.proofs.Laws.{later, holdable_insert, holdable_take, ascending-insert, ascending-take}

-- ---- "ascending", of neighbours in the list and of any two

none_later : (x y : Neighbor) (zs : List Neighbor) → Holdable x.distance → Holdable y.distance → AllHoldable zs → before y x ≡ false → NoneBefore y zs → NoneBefore x zs
none_later x y [] X Y Z h n = tt
none_later x y (z ∷ zs) X Y Z h n = (later z x y Z.0 X Y n.0 h, none_later x y zs X Y Z.1 h n.1)

order_of_lem : (x : Neighbor) (ys : List Neighbor) → Holdable x.distance → AllHoldable ys → in_order x ys ≡ true → NoneBefore x ys × Ascending ys
unfolding in_order
order_of_lem x [] X Y h = (tt, tt)
order_of_lem x (y ∷ ys) X Y h =
    let p = both (not (before y x)) (in_order y ys) h in
    let b : before y x ≡ false = not-true (before y x) p.0 in
    let r = order_of_lem y ys Y.0 Y.1 p.1 in
    ((b, none_later x y ys X Y.0 Y.1 b r.0), r)

pub ascending_of : (l : List Neighbor) → AllHoldable l → ascending l ≡ true → Ascending l
unfolding ascending
ascending_of [] X h = tt
ascending_of (x ∷ xs) X h = order_of_lem x xs X.0 X.1 h

of_order : (x : Neighbor) (ys : List Neighbor) → NoneBefore x ys → Ascending ys → in_order x ys ≡ true
unfolding in_order
of_order x [] n s = refl
of_order x (y ∷ ys) n s = together _ _ (ap not n.0) (of_order y ys s.0 s.1)

pub of_ascending : (l : List Neighbor) → Ascending l → ascending l ≡ true
unfolding ascending
of_ascending [] s = refl
of_ascending (x ∷ xs) s = of_order x xs s.0 s.1

-- ---- well-formed entries

-- an entry that an offer brings
pub entry-formed : (n v : ℕ) (x : Float) → v < n → fit x ≡ true → entry_formed n (neighbor v x) ≡ true
unfolding entry_formed
entry-formed n v x h f = rw (ne_eqb v n (λ q. omega arith), lt-ltb v n h, f)

pub holdable_entry : (n : ℕ) (e : Neighbor) → T (fits binary32 e.distance) → entry_formed n e ≡ true → Holdable e.distance
unfolding entry_formed
holdable_entry n e t h = go (eqb (node_of e) n) h
  where
    go : (b : Bool) → cond b (eqb (to_bits binary32 e.distance) empty_bits) (ltb (node_of e) n && fit e.distance) ≡ true → Holdable e.distance
    go true h = let l = eqb-true (to_bits binary32 e.distance) empty_bits h in record { held = t; low = omega arith }
    go false h = holdable_fit e.distance t (both (ltb (node_of e) n) (fit e.distance) h).1

pub holdable_formed : (n : ℕ) (l : List Neighbor) → All (λ (e : Neighbor). T (fits binary32 e.distance)) l → entries_formed n l ≡ true → AllHoldable l
unfolding entries_formed
holdable_formed n [] F h = tt
holdable_formed n (e ∷ es) F h =
    let p = both (entry_formed n e) (entries_formed n es) h in
    (holdable_entry n e F.0 p.0, holdable_formed n es F.1 p.1)

formed-insert : (n : ℕ) (e : Neighbor) (l : List Neighbor) → entry_formed n e ≡ true → entries_formed n l ≡ true → entries_formed n (insert e l) ≡ true
unfolding entries_formed insert
formed-insert n e [] f h = together _ _ f refl
formed-insert n e (x ∷ xs) f h = go (before e x) (formed-insert n e xs f (both (entry_formed n x) (entries_formed n xs) h).1)
  where
    go : (b : Bool) → entries_formed n (insert e xs) ≡ true → entries_formed n (cond b (e ∷ x ∷ xs) (x ∷ insert e xs)) ≡ true
    go true r = together _ _ f h
    go false r = together _ _ (both (entry_formed n x) (entries_formed n xs) h).0 r

formed-take : (n k : ℕ) (l : List Neighbor) → entries_formed n l ≡ true → entries_formed n (take k l) ≡ true
unfolding entries_formed
formed-take n zero l h = refl
formed-take n (suc k) [] h = refl
formed-take n (suc k) (x ∷ xs) h =
    let p = both (entry_formed n x) (entries_formed n xs) h in together _ _ p.0 (formed-take n k xs p.1)

-- ---- a well-formed list of values of binary32, and each step

pub record Kept (n : ℕ) (l : List Neighbor) : Type 0 where
  pub holdable : AllHoldable l
  pub formed : list_formed n l ≡ true

pub kept_of : (n : ℕ) (l : List Neighbor) → All (λ (e : Neighbor). T (fits binary32 e.distance)) l → list_formed n l ≡ true → Kept n l
unfolding list_formed
kept_of n l F h = record { holdable = holdable_formed n l F (both (ascending l) (entries_formed n l) h).1; formed = h }

module _ {n : ℕ} {l : List Neighbor} (K : Kept n l) where
  pub kept-ascending : Ascending l
  unfolding list_formed
  kept-ascending = ascending_of l K.holdable (both (ascending l) (entries_formed n l) K.formed).0

  entries-kept : entries_formed n l ≡ true
  unfolding list_formed
  entries-kept = (both (ascending l) (entries_formed n l) K.formed).1

  pub kept_push : (e : Neighbor) → T (fits binary32 e.distance) → entry_formed n e ≡ true → Kept n (push e l)
  unfolding list_formed
  kept_push e t f =
      let E = holdable_entry n e t f in
      record {
        holdable = holdable_insert e l E K.holdable;
        formed = together _ _ (of_ascending (insert e l) (ascending-insert e l E K.holdable kept-ascending)) (formed-insert n e l f entries-kept);
      }

  pub kept-take : (k : ℕ) → Kept n (take k l)
  unfolding list_formed
  kept-take k =
      record {
        holdable = holdable_take k l K.holdable;
        formed = together _ _ (of_ascending (take k l) (ascending-take k l kept-ascending)) (formed-take n k l entries-kept);
      }

  pub kept-pop : Kept n (pop l)
  unfolding pop
  kept-pop = kept-take (length l - 1)

pub kept-offer : {n : ℕ} {l : List Neighbor} (k : ℕ) (e : Neighbor) → T (fits binary32 e.distance) → entry_formed n e ≡ true → Kept n l → Kept n (offer k e l)
unfolding offer
kept-offer {n} {l} k e t f K = go (look e l) (measure k (push e l))
  where
    go : (a b : Bool) → Kept n (cond a (cond b (pop (push e l)) (push e l)) l)
    go true true = kept-pop (kept_push K e t f)
    go true false = kept_push K e t f
    go false b = K
