-- Laws of step 3 over plain lists: what is chosen, and the turns of its loops. Assumes nothing.
use mathlib.Core.Path.{◌≡◌, refl, sym, ap, subst, ◌∙◌}
use mathlib.Core.Bool.{Bool, true, false, cond, not, true≢false, ◌&&◌, ◌||◌}
use mathlib.Core.List.{List, [], ◌∷◌, ◌++◌}
use Prim.Native.Nat.{ℕ, zero, suc, ◌+◌, ◌≤◌, ◌<◌, zero-le}
use native.Mathlib.Nat.{le_of_suc-le-suc, not-suc-le-zero}
use native.Mathlib.Numerals.{add-one}
use native.Mathlib.Omega.{arith}
use lib.Dec.{ltb}
use lib.ListN.{length, drop, get_or, set, length-append, length-set}
use lib.Seq.{drop-set-lt, take-set-le, get_or-set_same}
use lib.Ieee.{Float, nan}
use borrow.Author.Tests.{lt-ltb, le-ltb, ltb-true, ltb-false}
use Rattle.rules.specs.declared.Neighbor.{Neighbor}
use Rattle.rules.specs.Loops.{through, any_of}
use Rattle.rules.specs.Lists.{neighbor, node_of, entries, sort}
use Rattle.rules.specs.Build.{occludes, keep, choose, Between}
use Rattle.rules.proofs.Loops.{through-end, any_end}
use Rattle.lists.proofs.Slices.{length-entries, drop-entries, entries-suc, entries-same}
use Rattle.lists.proofs.Plain.{drop-later, all_append, all-sort}
use Rattle.kernels.specs.Eight.{held, Held}
use Rattle.kernels.proofs.Laws.{held_below}
use Rattle.prune.specs.Chosen.{AllBelow, FourStand, Kept, Chosen}

-- ---- one entry against another

module _ (d : Between) (t : Float) (b : Bool) (p r : Neighbor) where
  -- the distance of the two is all that is asked of the distances
  pub occludes-apart : (e : Between) → e (node_of p) (node_of r) ≡ d (node_of p) (node_of r) → occludes e t b p r ≡ occludes d t b p r
  unfolding occludes
  occludes-apart e h = rw h

-- what was asked of an entry by its distance is asked of the entry
pub stood : (d : Between) (t : Float) (b : Bool) (p : Neighbor) {r : Neighbor} {djk : Float} {s : Bool} (x : Neighbor) → s ≡ occludes (λ (i j : ℕ). djk) t b p r
    → djk ≡ d (node_of p) (node_of r) → r ≡ x → s ≡ occludes d t b p x
stood d t b p {r} {djk} x e f g = e ∙ occludes-apart d t b p r (λ (i j : ℕ). djk) f ∙ ap (occludes d t b p) g

-- ---- nodes below n

pub below-is : (n : ℕ) {e x : Neighbor} → e ≡ x → node_of x < n → node_of e < n
below-is n q h = subst (λ (z : Neighbor). node_of z < n) (sym q) h

-- the entry at place i of two slices
pub below-entry : (n len i : ℕ) (ns : List ℕ) (ds : List Float) (a : ℕ) → AllBelow n (entries len ns ds) → i < len → len ≤ length ns → len ≤ length ds → get_or ns i a < n
unfolding entries
below-entry n zero i ns ds a X l h k = absurd (not-suc-le-zero l)
below-entry n (suc len) i [] ds a X l h k = absurd (not-suc-le-zero h)
below-entry n (suc len) i (x ∷ ns) [] a X l h k = absurd (not-suc-le-zero k)
below-entry n (suc len) zero (x ∷ ns) (y ∷ ds) a X l h k = X.0
below-entry n (suc len) (suc i) (x ∷ ns) (y ∷ ds) a X l h k = below-entry n len i ns ds a X.1 (le_of_suc-le-suc l) (le_of_suc-le-suc h) (le_of_suc-le-suc k)

pub below-append : (n : ℕ) (xs ys : List Neighbor) → AllBelow n xs → AllBelow n ys → AllBelow n (xs ++ ys)
below-append n xs ys X Y = all_append (λ (e : Neighbor). node_of e < n) xs ys X Y

pub below-sort : (n : ℕ) (es : List Neighbor) → AllBelow n es → AllBelow n (sort es)
below-sort n es E = all-sort (λ (e : Neighbor). node_of e < n) es E

-- ---- whether a test holds of one of the entries of two slices: at place i

module _ (p : Neighbor → Bool) (ns : List ℕ) (ds : List Float) (len i : ℕ) (a : ℕ) (d : Float) (h : len ≤ length ns) (k : len ≤ length ds) where
  pub any_entry-here : i < len → p (neighbor (get_or ns i a) (get_or ds i d)) ≡ true → any_of p (drop i (entries len ns ds)) ≡ true
  unfolding any_of
  any_entry-here l e = rw (drop-entries len i ns ds a d l h k, e)

  pub any_entry_turn : i < len → p (neighbor (get_or ns i a) (get_or ds i d)) ≡ false → any_of p (drop (i + 1) (entries len ns ds)) ≡ any_of p (drop i (entries len ns ds))
  unfolding any_of
  any_entry_turn l e = rw (add-one, drop-entries len i ns ds a d l h k, e)

  pub any_entry-end : len ≤ i → any_of p (drop i (entries len ns ds)) ≡ false
  any_entry-end l = let long = length-entries len ns ds h k in any_end p (entries len ns ds) i (omega arith)

-- ---- the same at four places, the last of them again where there are fewer

any_drop : (p : Neighbor → Bool) (xs : List Neighbor) (i : ℕ) → any_of p (drop i xs) ≡ true → any_of p xs ≡ true
unfolding any_of
any_drop p xs zero e = e
any_drop p [] (suc i) e = e
any_drop p (x ∷ xs) (suc i) e = rw (any_drop p xs i e) (go (p x))
  where
    go : (b : Bool) → (b || true) ≡ true
    go true = refl
    go false = refl

module _ (p : Neighbor → Bool) (ns : List ℕ) (ds : List Float) (len : ℕ) (h : len ≤ length ns) (k : len ≤ length ds) where
  abbrev At : ℕ → Neighbor
  At i = neighbor (get_or ns i 0) (get_or ds i nan)

  some-entry : (i : ℕ) → i < len → p (At i) ≡ true → any_of p (entries len ns ds) ≡ true
  some-entry i l e = any_drop p (entries len ns ds) i (any_entry-here p ns ds len i 0 nan h k l e)

  past : (i j : ℕ) → j ≡ held len i → p (At j) ≡ false → any_of p (drop (i + 1) (entries len ns ds)) ≡ any_of p (drop i (entries len ns ds))
  past i j q e = go (ltb i len) refl
    where
      go : (b : Bool) → ltb i len ≡ b → any_of p (drop (i + 1) (entries len ns ds)) ≡ any_of p (drop i (entries len ns ds))
      go true f =
          let l = ltb-true i len f in
          any_entry_turn p ns ds len i 0 nan h k l (ap (λ (m : ℕ). p (At m)) (sym (q ∙ held_below len i l)) ∙ e)
      go false f =
          let l = ltb-false i len f in
          any_entry-end p ns ds len (i + 1) 0 nan h k (omega arith) ∙ sym (any_entry-end p ns ds len i 0 nan h k l)

  pub four_yes : (i j : ℕ) (r : Bool) → j < len → p (At j) ≡ true → r ≡ true → FourStand p ns ds len i r
  four_yes i j r l e f = record { yes = λ g. some-entry j l e; no = λ g. absurd (true≢false (sym f ∙ g)) }

  pub four_last : (i a b c : ℕ) (r : Bool) → i < len → Held len (i + 1) a → Held len (i + 2) b → Held len (i + 3) c
      → p (At i) ≡ false → p (At a) ≡ false → p (At b) ≡ false → r ≡ p (At c) → FourStand p ns ds len i r
  four_last i a b c r l A B C e f g q =
      record {
        yes = λ y. some-entry c C.below (sym q ∙ y);
        no = λ y.
            let es = entries len ns ds in
            let two : i + 2 ≡ i + 1 + 1 = omega arith in
            let three : i + 3 ≡ i + 2 + 1 = omega arith in
            let four : i + 4 ≡ i + 3 + 1 = omega arith in
            ap (λ (m : ℕ). any_of p (drop m es)) four ∙ past (i + 3) c C.is (sym q ∙ y)
            ∙ ap (λ (m : ℕ). any_of p (drop m es)) three ∙ past (i + 2) b B.is g
            ∙ ap (λ (m : ℕ). any_of p (drop m es)) two ∙ past (i + 1) a A.is f
            ∙ past i i (sym (held_below len i l)) e;
      }

-- ---- the choice

module _ (f : Neighbor → Neighbor → Bool) (k : ℕ) where
  pub below-keep : (n : ℕ) (p : Neighbor) (xs : List Neighbor) → node_of p < n → AllBelow n xs → AllBelow n (keep f k p xs)
  unfolding keep
  below-keep n p xs P X = go (ltb (length xs) k && not (any_of (f p) xs))
    where
      go : (b : Bool) → AllBelow n (cond b (xs ++ (p ∷ [])) xs)
      go true = below-append n xs (p ∷ []) X (P, tt)
      go false = X

  below-through : (n : ℕ) (es xs : List Neighbor) → AllBelow n es → AllBelow n xs → AllBelow n (through (keep f k) es xs)
  unfolding through
  below-through n [] xs E X = X
  below-through n (e ∷ es) xs E X = below-through n es (keep f k e xs) E.1 (below-keep n e xs E.0 X)

  -- the chosen are among the candidates: what is below n stays below n
  pub below-choose : (n : ℕ) (es : List Neighbor) → AllBelow n es → AllBelow n (choose f k es)
  unfolding choose
  below-choose n es E = below-through n es [] E tt

  -- once k are kept no more is
  pub keep_full : (p : Neighbor) (xs : List Neighbor) → k ≤ length xs → keep f k p xs ≡ xs
  unfolding keep
  keep_full p xs h = rw (le-ltb (length xs) k h)

  pub through_full : (es xs : List Neighbor) → k ≤ length xs → through (keep f k) es xs ≡ xs
  unfolding through
  through_full [] xs h = refl
  through_full (e ∷ es) xs h = ap (through (keep f k) es) (keep_full e xs h) ∙ through_full es xs h

  length-keep : (p : Neighbor) (xs : List Neighbor) → length xs ≤ length (keep f k p xs)
  unfolding keep
  length-keep p xs = go (ltb (length xs) k && not (any_of (f p) xs))
    where
      go : (b : Bool) → length xs ≤ length (cond b (xs ++ (p ∷ [])) xs)
      go true = simp length-append (omega arith)
      go false = omega arith

  length-through : (es xs : List Neighbor) → length xs ≤ length (through (keep f k) es xs)
  unfolding through
  length-through [] xs = omega arith
  length-through (e ∷ es) xs = let a = length-keep e xs in let b = length-through es (keep f k e xs) in omega arith

  -- "Keep the first."
  pub choose-some : (es : List Neighbor) → 1 ≤ length es → 1 ≤ k → 1 ≤ length (choose f k es)
  unfolding choose through keep any_of
  choose-some [] h l = absurd (not-suc-le-zero h)
  choose-some (e ∷ es) h l = rw (lt-ltb 0 k l) (length-through es (e ∷ []))

  -- one p that is not occluded, and one that is
  pub keep-more : (p : Neighbor) (xs : List Neighbor) → length xs < k → any_of (f p) xs ≡ false → keep f k p xs ≡ xs ++ (p ∷ [])
  unfolding keep
  keep-more p xs h e = rw (lt-ltb (length xs) k h, e)

  pub keep_none : (p : Neighbor) (xs : List Neighbor) → length xs < k → any_of (f p) xs ≡ true → keep f k p xs ≡ xs
  unfolding keep
  keep_none p xs h e = rw (lt-ltb (length xs) k h, e)

-- ---- one p, in the slices

module _ {f : Neighbor → Neighbor → Bool} {k : ℕ} {p : Neighbor} {ns : List ℕ} {ds : List Float} {kept : ℕ} (h : k ≤ length ns) (g : k ≤ length ds) (l : kept < k) where
  pub kept_none : any_of (f p) (entries kept ns ds) ≡ true → Kept f k p ns ds kept ns ds kept
  kept_none e =
      let long = length-entries kept ns ds (omega arith) (omega arith) in
      record {
        list = sym (keep_none f k p (entries kept ns ds) (omega arith) e);
        more = omega arith;
        within = omega arith;
        nodes_rest = refl;
        dists_rest = refl;
        nodes_long = refl;
        dists_long = refl;
      }

  pub kept_more : any_of (f p) (entries kept ns ds) ≡ false → Kept f k p ns ds kept (set ns kept (node_of p)) (set ds kept p.distance) (kept + 1)
  kept_more e =
      let long = length-entries kept ns ds (omega arith) (omega arith) in
      let ns' = set ns kept (node_of p) in
      let ds' = set ds kept p.distance in
      let u : kept < length ns' = simp length-set (omega arith) in
      let v : kept < length ds' = simp length-set (omega arith) in
      let one : neighbor (get_or ns' kept 0) (get_or ds' kept p.distance) ≡ p =
      ap (λ (a : ℕ). neighbor a (get_or ds' kept p.distance)) (get_or-set_same ns kept (node_of p) 0 (omega arith))
      ∙ ap (neighbor (node_of p)) (get_or-set_same ds kept p.distance p.distance (omega arith)) in
      record {
        list =
            rw add-one
            (entries-suc kept ns' ds' 0 p.distance u v
            ∙ ap (λ (x : Neighbor). entries kept ns' ds' ++ (x ∷ [])) one
            ∙ ap (λ (es : List Neighbor). es ++ (p ∷ []))
            (entries-same kept ns' ns ds' ds (take-set-le kept ns kept (node_of p) (omega arith)) (take-set-le kept ds kept p.distance (omega arith)))
            ∙ sym (keep-more f k p (entries kept ns ds) (omega arith) e));
        more = omega arith;
        within = omega arith;
        nodes_rest = drop-set-lt (kept + 1) ns kept (node_of p) (omega arith);
        dists_rest = drop-set-lt (kept + 1) ds kept p.distance (omega arith);
        nodes_long = length-set ns kept (node_of p);
        dists_long = length-set ds kept p.distance;
      }

-- ---- the loop: to go on with the entries that are left gives the whole choice

pub record Choosing (f : Neighbor → Neighbor → Bool) (n k len : ℕ) (fs : List ℕ) (gs : List Float) (ns₀ : List ℕ) (ds₀ : List Float) (ns : List ℕ) (ds : List Float) (kept i : ℕ) : Type 0 where
  pub within : kept ≤ k
  pub list : through (keep f k) (drop i (entries len fs gs)) (entries kept ns ds) ≡ choose f k (entries len fs gs)
  pub below : AllBelow n (entries kept ns ds)
  pub nodes_rest : drop kept ns ≡ drop kept ns₀
  pub dists_rest : drop kept ds ≡ drop kept ds₀
  pub nodes_long : length ns ≡ length ns₀
  pub dists_long : length ds ≡ length ds₀

pub choosing_none : {f : Neighbor → Neighbor → Bool} {n k len : ℕ} {fs : List ℕ} {gs : List Float} {ns : List ℕ} {ds : List Float} → Choosing f n k len fs gs ns ds ns ds 0 0
unfolding choose entries
choosing_none = record { within = zero-le; list = refl; below = tt; nodes_rest = refl; dists_rest = refl; nodes_long = refl; dists_long = refl }

module _ {f : Neighbor → Neighbor → Bool} {n k len : ℕ} {fs : List ℕ} {gs : List Float} {ns₀ : List ℕ} {ds₀ : List Float} {ns : List ℕ} {ds : List Float} {kept i : ℕ} (inv : Choosing f n k len fs gs ns₀ ds₀ ns ds kept i) where
  pub choosing_turn : len ≤ length fs → len ≤ length gs → {ns' : List ℕ} {ds' : List Float} {r : ℕ} (a : ℕ) (d : Float) → i < len → AllBelow n (entries len fs gs)
      → Kept f k (neighbor (get_or fs i a) (get_or gs i d)) ns ds kept ns' ds' r → Choosing f n k len fs gs ns₀ ds₀ ns' ds' r (i + 1)
  unfolding through
  choosing_turn h g {ns'} {ds'} {r} a d l all made =
      let p = neighbor (get_or fs i a) (get_or gs i d) in
      let es = entries len fs gs in
      record {
        within = made.within;
        list =
            rw add-one
            (ap (through (keep f k) (drop (suc i) es)) made.list
            ∙ ap (λ (l : List Neighbor). through (keep f k) l (entries kept ns ds)) (sym (drop-entries len i fs gs a d l h g)) ∙ inv.list);
        below = rw made.list (below-keep f k n p (entries kept ns ds) (below-entry n len i fs gs a all l h g) inv.below);
        nodes_rest = made.nodes_rest ∙ drop-later kept r ns ns₀ made.more inv.nodes_rest;
        dists_rest = made.dists_rest ∙ drop-later kept r ds ds₀ made.more inv.dists_rest;
        nodes_long = made.nodes_long ∙ inv.nodes_long;
        dists_long = made.dists_long ∙ inv.dists_long;
      }

  chosen_of : k ≤ length ns₀ → k ≤ length ds₀ → entries kept ns ds ≡ choose f k (entries len fs gs) → Chosen f k (entries len fs gs) ns₀ ds₀ ns ds kept
  chosen_of h g e =
      let w = inv.within in
      let u = inv.nodes_long in
      let v = inv.dists_long in
      record {
        list = e;
        count = sym (length-entries kept ns ds (omega arith) (omega arith)) ∙ ap length e;
        within = w;
        nodes_rest = inv.nodes_rest;
        dists_rest = inv.dists_rest;
        nodes_long = u;
        dists_long = v;
      }

  pub choosing_full : k ≤ length ns₀ → k ≤ length ds₀ → k ≤ kept → Chosen f k (entries len fs gs) ns₀ ds₀ ns ds kept
  choosing_full h g l =
      let w = inv.within in
      let u = inv.nodes_long in
      let v = inv.dists_long in
      let long = length-entries kept ns ds (omega arith) (omega arith) in
      chosen_of h g (sym (through_full f k (drop i (entries len fs gs)) (entries kept ns ds) (omega arith)) ∙ inv.list)

  pub choosing_end : len ≤ length fs → len ≤ length gs → k ≤ length ns₀ → k ≤ length ds₀ → len ≤ i → Chosen f k (entries len fs gs) ns₀ ds₀ ns ds kept
  choosing_end p q h g l =
      let long = length-entries len fs gs p q in
      chosen_of h g (sym (through-end (keep f k) (entries len fs gs) i (entries kept ns ds) (omega arith)) ∙ inv.list)
