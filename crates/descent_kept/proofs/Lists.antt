-- Updates of pairs of nodes below n keep the lists well formed and at k entries, and marks keep the flags of all pairs. Assumes nothing.
use mathlib.Core.Path.{◌≡◌, refl, sym, ap, ◌∙◌, subst}
use mathlib.Core.Bool.{Bool, true, false, cond}
use mathlib.Core.List.{List, [], ◌∷◌, ◌++◌, map}
use Prim.Native.Nat.{ℕ, zero, suc, ◌+◌, ◌*◌, ◌≤◌, ◌<◌}
use native.Mathlib.Omega.{arith}
use lib.Dec.{eqb, ltb}
use lib.ListN.{length, set, length-set, length-take}
use lib.Seq.{get_or-set_same, get_or-set_other}
use lib.Ieee.{Float}
use borrow.Author.Tests.{eqb-true, eqb-false}
use Rattle.rules.specs.declared.Neighbor.{Neighbor}
use Rattle.rules.specs.Loops.{through, turns}
use Rattle.rules.specs.Distance.{fit}
use Rattle.rules.specs.Lists.{neighbor, insert}
use Rattle.rules.specs.Build.{Between}
use Rattle.rules.specs.Offers.{offer}
use Rattle.rules.specs.Descent.{Context, list_at, Pair, pair, cross, own_pairs, rising_with, rising_pairs, passes, offer_to, update, visit, Met, meet, meet_all}
use Rattle.neighbor.specs.Holdable.{Holdable}
use Rattle.lists.specs.All.{All}
use Rattle.lists.proofs.Laws.{length-insert}
use Rattle.lists.proofs.Plain.{all_append}
use Rattle.steps.proofs.Formed.{entry-formed, Kept, kept-ascending, kept-offer}
use Rattle.steps.proofs.Laws.{offer-least}
use Rattle.descent_kept.specs.Formed.{Each, Below}

-- ---- a fact that every turn keeps

pub through_keeps : {A S : Type 0} (P : S → Type 0) (Q : A → Type 0) (f : A → S → S) → ((x : A) (s : S) → Q x → P s → P (f x s)) → (xs : List A) (s : S) → All Q xs → P s → P (through f xs s)
unfolding through
through_keeps P Q f k [] s X p = p
through_keeps P Q f k (x ∷ xs) s X p = through_keeps P Q f k xs (f x s) X.1 (k x s X.0 p)

pub turns_keeps : {S : Type 0} (P : S → Type 0) (f : ℕ → S → S) (n : ℕ) → ((i : ℕ) (s : S) → i < n → P s → P (f i s)) → (s : S) → P s → P (turns f n s)
unfolding turns
turns_keeps P f zero k s p = p
turns_keeps {S} P f (suc n) k s p = k n (turns f n s) (omega arith) (turns_keeps P f n (λ (i : ℕ) (x : S) (h : i < n). k i x (omega arith)) s p)

-- ---- the pairs that meet are of nodes below n

abbrev pub Inside : ℕ → Pair → Type 0
Inside n p = (p.u < n) × (p.v < n)

module _ (n : ℕ) where
  with_each : (x : ℕ) (ys : List ℕ) → x < n → Below n ys → All (Inside n) (map (pair x) ys)
  with_each x [] X Y = tt
  with_each x (y ∷ ys) X Y = ((X, Y.0), with_each x ys X Y.1)

  cross-inside : (xs ys : List ℕ) → Below n xs → Below n ys → All (Inside n) (cross xs ys)
  unfolding cross
  cross-inside [] ys X Y = tt
  cross-inside (x ∷ xs) ys X Y = all_append (Inside n) (map (pair x) ys) (cross xs ys) (with_each x ys X.0 Y) (cross-inside xs ys X.1 Y)

  own-inside : (xs : List ℕ) → Below n xs → All (Inside n) (own_pairs xs)
  unfolding own_pairs
  own-inside [] X = tt
  own-inside (x ∷ xs) X = all_append (Inside n) (map (pair x) (x ∷ xs)) (own_pairs xs) (with_each x (x ∷ xs) X.0 X) (own-inside xs X.1)

  rising_with_lem : (x : ℕ) (ys : List ℕ) → x < n → Below n ys → All (Inside n) (rising_with x ys)
  unfolding rising_with
  rising_with_lem x [] X Y = tt
  rising_with_lem x (y ∷ ys) X Y = go (ltb x y) (rising_with_lem x ys X Y.1)
    where
      go : (b : Bool) → All (Inside n) (rising_with x ys) → All (Inside n) (cond b (pair x y ∷ rising_with x ys) (rising_with x ys))
      go true r = ((X, Y.0), r)
      go false r = r

  rising_inside : (xs : List ℕ) → Below n xs → All (Inside n) (rising_pairs xs)
  unfolding rising_pairs
  rising_inside [] X = tt
  rising_inside (x ∷ xs) X = all_append (Inside n) (rising_with x xs) (rising_pairs xs) (rising_with_lem x xs X.0 X.1) (rising_inside xs X.1)

  pub passes-inside : (c : Context) → Each (Below n) c → All (Inside n) (passes c)
  unfolding passes
  passes-inside c B =
      let I = Inside n in
      let p7 = cross-inside c.old c.reversed_new B.old B.reversed_new in
      let p6 = all_append I (cross c.new c.reversed_new) (cross c.old c.reversed_new) (cross-inside c.new c.reversed_new B.new B.reversed_new) p7 in
      let p5 = all_append I (cross c.new c.reversed_old) (cross c.new c.reversed_new ++ cross c.old c.reversed_new) (cross-inside c.new c.reversed_old B.new B.reversed_old) p6 in
      let r5 = cross c.new c.reversed_old ++ (cross c.new c.reversed_new ++ cross c.old c.reversed_new) in
      let p4 = all_append I (cross c.reversed_new c.reversed_old) r5 (cross-inside c.reversed_new c.reversed_old B.reversed_new B.reversed_old) p5 in
      let r4 = cross c.reversed_new c.reversed_old ++ r5 in
      let p3 = all_append I (rising_pairs c.reversed_new) r4 (rising_inside c.reversed_new B.reversed_new) p4 in
      let r3 = rising_pairs c.reversed_new ++ r4 in
      let p2 = all_append I (cross c.new c.old) r3 (cross-inside c.new c.old B.new B.old) p3 in
      all_append I (own_pairs c.new) (cross c.new c.old ++ r3) (own-inside c.new B.new) p2

-- ---- lists of k entries, well formed

pub record Lists (n k : ℕ) (ls : List (List Neighbor)) : Type 0 where
  pub nodes : length ls ≡ n
  pub long : (w : ℕ) → w < n → length (list_at ls w) ≡ k
  pub kept : (w : ℕ) → w < n → Kept n (list_at ls w)

module _ (d : Between) (n k : ℕ) (some : 1 ≤ k) (far : (u v : ℕ) → Holdable (d u v)) (near : (u v : ℕ) → fit (d u v) ≡ true) where
  offer_keeps : (u v : ℕ) (x : Float) (ls : List (List Neighbor)) → u < n → v < n → Holdable x → fit x ≡ true → Lists n k ls → Lists n k (offer_to k u v x ls)
  unfolding offer_to
  offer_keeps u v x ls un vn X f L =
      record {
        nodes = length-set ls u l' ∙ L.nodes;
        long = λ (w : ℕ) (wn : w < n). at (λ (l : List Neighbor). length l ≡ k) w (L.long w wn) long_after (eqb u w) refl;
        kept = λ (w : ℕ) (wn : w < n). at (Kept n) w (L.kept w wn) (kept-offer k e X.held (entry-formed n v x vn f) (L.kept u un)) (eqb u w) refl;
      }
    where
      e : Neighbor
      e = neighbor v x

      l' : List Neighbor
      l' = offer k (neighbor v x) (list_at ls u)

      long_after : length l' ≡ k
      long_after =
          let m = L.long u un in
          let i = length-insert e (list_at ls u) in
          ap length (offer-least k e (list_at ls u) some m X (L.kept u un).holdable (kept-ascending (L.kept u un))) ∙ length-take k (insert e (list_at ls u)) ∙ omega arith

      at : (P : List Neighbor → Type 0) (w : ℕ) → P (list_at ls w) → P l' → (b : Bool) → eqb u w ≡ b → P (list_at (set ls u l') w)
      at P w p q true h =
          let sz = L.nodes in
          subst (λ (z : ℕ). P (list_at (set ls u l') z)) (eqb-true u w h) (subst P (sym (get_or-set_same ls u l' [] (omega arith))) q)
      at P w p q false h = subst P (sym (get_or-set_other ls u w l' [] (λ (z : w ≡ u). eqb-false u w h (sym z)))) p

  pub update_keeps : (p : Pair) (ls : List (List Neighbor)) → Inside n p → Lists n k ls → Lists n k (update d k p ls)
  unfolding update
  update_keeps p ls I L = go (eqb p.u p.v)
    where
      x : Float
      x = d p.u p.v

      go : (b : Bool) → Lists n k (cond b ls (offer_to k p.v p.u x (offer_to k p.u p.v x ls)))
      go true = L
      go false =
          let X = far p.u p.v in
          let f = near p.u p.v in
          offer_keeps p.v p.u x (offer_to k p.u p.v x ls) I.1 I.0 X f (offer_keeps p.u p.v x ls I.0 I.1 X f L)

  -- lists and flags while pairs meet
  pub record Meeting (m : Met) : Type 0 where
    pub lists : Lists n k m.lists
    pub pairs : length m.visited ≡ n * n

  meet_keeps : (p : Pair) (m : Met) → Inside n p → Meeting m → Meeting (meet d n k p m)
  unfolding meet visit
  meet_keeps p m I M =
      record {
        lists = update_keeps p m.lists I M.lists;
        pairs =
            length-set (set m.visited (p.u * n + p.v) true) (p.v * n + p.u) true ∙ length-set m.visited (p.u * n + p.v) true ∙ M.pairs;
      }

  pub all_meet : (cs : List Context) (m : Met) → All (Each (Below n)) cs → Meeting m → Meeting (meet_all d n k cs m)
  unfolding meet_all
  all_meet cs m C M =
      through_keeps Meeting (Each (Below n)) (λ (c : Context) (s : Met). through (meet d n k) (passes c) s)
      (λ (c : Context) (s : Met) (B : Each (Below n) c) (N : Meeting s). through_keeps Meeting (Inside n) (meet d n k) meet_keeps (passes c) s (passes-inside n c B) N) cs m C M
