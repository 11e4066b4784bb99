-- A fact of each of a list, and what else several crates ask of plain lists. Assumes nothing.
use mathlib.Core.Path.{◌≡◌, refl, sym, ap, ◌∙◌}
use mathlib.Core.Bool.{Bool, true, false}
use mathlib.Core.List.{List, [], ◌∷◌, ◌++◌, map, reverse, reverse-cons}
use Prim.Native.Nat.{ℕ, zero, suc, ◌+◌, ◌-◌, ◌≤◌, ◌<◌, zero-le, suc-le-suc}
use native.Mathlib.Nat.{le_of_suc-le-suc, not-suc-le-zero}
use native.Mathlib.Omega.{arith}
use lib.Dec.{ltb}
use lib.ListN.{length, take, drop, get_or, length-reverse, length-map, length-drop, get_or-append}
use lib.Seq.{drop-drop, get_or_at, take_all}
use borrow.Author.Tests.{ltb-true, ltb-false}
use Rattle.rules.specs.declared.Neighbor.{Neighbor}
use Rattle.rules.specs.Lists.{node_of, nodes_of, distances_of, sort}
use Rattle.neighbor.specs.Holdable.{Holdable}
use Rattle.lists.specs.Ascending.{AllHoldable, Perm, same, next, exchange, chain}
use Rattle.lists.specs.All.{All}
use Rattle.lists.proofs.Laws.{sort-is_perm}

-- what is the same from one place on is so from a later one on
pub drop-later : {A : Type 0} (a b : ℕ) (xs ys : List A) → a ≤ b → drop a xs ≡ drop a ys → drop b xs ≡ drop b ys
drop-later a b xs ys h e =
    let m : b ≡ a + (b - a) = omega arith in
    rw m (sym (drop-drop (b - a) a xs) ∙ ap (drop (b - a)) e ∙ drop-drop (b - a) a ys)

-- what stands at place i of a list turned round
pub get_d_reverse : {A : Type 0} (xs : List A) (i : ℕ) (z : A) → i < length xs → get_or (reverse xs) i z ≡ get_or xs (length xs - 1 - i) z
get_d_reverse [] i z h = absurd (not-suc-le-zero h)
get_d_reverse {A} (x ∷ xs) i z h =
    ap (λ (l : List A). get_or l i z) (reverse-cons x xs) ∙ go (ltb i (length xs)) refl (get_d_reverse xs i z)
  where
    go : (b : Bool) → ltb i (length xs) ≡ b → (i < length xs → get_or (reverse xs) i z ≡ get_or xs (length xs - 1 - i) z)
        → get_or (reverse xs ++ (x ∷ [])) i z ≡ get_or (x ∷ xs) (length (x ∷ xs) - 1 - i) z
    go true e ih =
        let l = ltb-true i (length xs) e in
        let m = length-reverse xs in
        let at : length (x ∷ xs) - 1 - i ≡ suc (length xs - 1 - i) = omega arith in
        get_or-append (reverse xs) (x ∷ []) z i (omega arith) ∙ ih l ∙ ap (λ (j : ℕ). get_or (x ∷ xs) j z) (sym at)
    go false e ih =
        let l = ltb-false i (length xs) e in
        let last : length xs ≡ i = omega arith in
        let at : length (x ∷ xs) - 1 - i ≡ 0 = omega arith in
        get_or_at (reverse xs) x [] z i (length-reverse xs ∙ last) ∙ ap (λ (j : ℕ). get_or (x ∷ xs) j z) (sym at)

module _ {A : Type 0} (P : A → Type 0) where
  pub all_append : (xs ys : List A) → All P xs → All P ys → All P (xs ++ ys)
  all_append [] ys X Y = Y
  all_append (x ∷ xs) ys X Y = (X.0, all_append xs ys X.1 Y)

  pub all-at : (xs : List A) (i : ℕ) (z : A) → All P xs → i < length xs → P (get_or xs i z)
  all-at [] i z X h = absurd (not-suc-le-zero h)
  all-at (x ∷ xs) zero z X h = X.0
  all-at (x ∷ xs) (suc i) z X h = all-at xs i z X.1 (le_of_suc-le-suc h)

  pub all_of : (xs : List A) (z : A) → ((i : ℕ) → i < length xs → P (get_or xs i z)) → All P xs
  all_of [] z f = tt
  all_of (x ∷ xs) z f = (f 0 (suc-le-suc zero-le), all_of xs z (λ (i : ℕ) (h : i < length xs). f (suc i) (suc-le-suc h)))

  pub all_take : (k : ℕ) (xs : List A) → All P xs → All P (take k xs)
  all_take zero xs X = tt
  all_take (suc k) [] X = tt
  all_take (suc k) (x ∷ xs) X = (X.0, all_take k xs X.1)

  pub all_perm : {xs ys : List A} → Perm xs ys → All P xs → All P ys
  all_perm same X = X
  all_perm (next p) X = (X.0, all_perm p X.1)
  all_perm exchange X = (X.1.0, (X.0, X.1.1))
  all_perm (chain p q) X = all_perm q (all_perm p X)

  pub all-reverse : (xs : List A) → All P xs → All P (reverse xs)
  all-reverse [] X = tt
  all-reverse (x ∷ xs) X = rw (reverse-cons x xs) (all_append (reverse xs) (x ∷ []) (all-reverse xs X.1) (X.0, tt))

  pub all_map : {B : Type 0} (f : B → A) (xs : List B) → All (λ (b : B). P (f b)) xs → All P (map f xs)
  all_map f [] X = tt
  all_map f (x ∷ xs) X = (X.0, all_map f xs X.1)

  pub all_weaker : (Q : A → Type 0) → ((x : A) → P x → Q x) → (xs : List A) → All P xs → All Q xs
  all_weaker Q f [] X = tt
  all_weaker Q f (x ∷ xs) X = (f x X.0, all_weaker Q f xs X.1)

pub all-sort : (P : Neighbor → Type 0) (es : List Neighbor) → All P es → All P (sort es)
all-sort P es E = all_perm P (sort-is_perm es) E

pub all_holdable : (es : List Neighbor) → All (λ (e : Neighbor). Holdable e.distance) es → AllHoldable es
all_holdable [] E = tt
all_holdable (e ∷ es) E = (E.0, all_holdable es E.1)

-- functions that give the same of each give the same list
pub map_same : {A B : Type 0} (f g : A → B) (xs : List A) → All (λ (x : A). f x ≡ g x) xs → map f xs ≡ map g xs
map_same f g [] X = refl
map_same {A} {B} f g (x ∷ xs) X = ap (λ (y : B). y ∷ map f xs) X.0 ∙ ap (λ (l : List B). g x ∷ l) (map_same f g xs X.1)

-- ---- the nodes and the distances of a list

pub length-nodes : (l : List Neighbor) → length (nodes_of l) ≡ length l
unfolding nodes_of
length-nodes l = length-map l node_of

pub length-distances : (l : List Neighbor) → length (distances_of l) ≡ length l
unfolding distances_of
length-distances l = length-map l (λ (e : Neighbor). e.distance)

-- ---- what is lent from a place on

pub to_end : {A : Type 0} (i : ℕ) (xs : List A) → take (length xs - i) (drop i xs) ≡ drop i xs
to_end i xs = take_all (length xs - i) (drop i xs) (simp length-drop (omega arith))
