-- The least k of the rulebook are the least k, and nothing else is. Assumes nothing.
use mathlib.Core.Path.{◌≡◌, refl, sym, ap, ◌∙◌, subst}
use mathlib.Core.Bool.{false}
use mathlib.Core.List.{List, [], ◌∷◌, ◌++◌}
use Prim.Native.Nat.{ℕ, ◌≤◌}
use native.Mathlib.Omega.{arith}
use lib.ListN.{length, take, drop, take-append-drop}
use lib.Seq.{take_all}
use Rattle.rules.specs.declared.Neighbor.{Neighbor}
use Rattle.rules.specs.Loops.{through}
use Rattle.rules.specs.Distance.{before}
use Rattle.rules.specs.Lists.{insert, place, insert_all, sort, least}
use Rattle.lists.specs.Ascending.{AllHoldable, NoneBefore, Ascending, Perm}
use Rattle.lists.specs.All.{All}
use Rattle.lists.proofs.Laws.{place-later, take-before, same-insert_all, length-least, sort_perm, sort-is_perm, sort-append, sort-ascending, holdable_perm, ascending-sort, ascending-take}
use Rattle.orders.specs.Least.{nearer, NoneNearer, Ordered, IsLeast}

-- the order is the rulebook's
nearer-is : (a b : Neighbor) → nearer a b ≡ before a b
unfolding nearer before
nearer-is a b = refl

none_nearer-is : (x : Neighbor) (ys : List Neighbor) → NoneBefore x ys → NoneNearer ys x
none_nearer-is x [] N = tt
none_nearer-is x (y ∷ ys) N = (nearer-is y x ∙ N.0, none_nearer-is x ys N.1)

none_before-is : (x : Neighbor) (ys : List Neighbor) → NoneNearer ys x → NoneBefore x ys
none_before-is x [] N = tt
none_before-is x (y ∷ ys) N = (sym (nearer-is y x) ∙ N.0, none_before-is x ys N.1)

ordered-is : (xs : List Neighbor) → Ascending xs → Ordered xs
ordered-is [] S = tt
ordered-is (x ∷ xs) S = (none_nearer-is x xs S.0, ordered-is xs S.1)

ascends : (xs : List Neighbor) → Ordered xs → Ascending xs
ascends [] S = tt
ascends (x ∷ xs) S = (none_before-is x xs S.0, ascends xs S.1)

-- of two parts of an ascending list
pub none_behind : (x : Neighbor) (xs ys : List Neighbor) → NoneBefore x (xs ++ ys) → NoneBefore x ys
none_behind x [] ys N = N
none_behind x (z ∷ xs) ys N = none_behind x xs ys N.1

parted : (xs ys : List Neighbor) → Ascending (xs ++ ys) → All (NoneNearer ys) xs
parted [] ys S = tt
parted (x ∷ xs) ys S = (none_nearer-is x ys (none_behind x xs ys S.0), parted xs ys S.1)

pub least-is : (k : ℕ) (given : List Neighbor) → AllHoldable given → k ≤ length given → IsLeast k given (least k given)
unfolding least
least-is k given G h =
    let s = sort given in
    let e : take k s ++ drop k s ≡ s = take-append-drop k s in
    record {
      long = length-least k given ∙ omega arith;
      ordered = ordered-is (take k s) (ascending-take k s (ascending-sort given G));
      rest = drop k s;
      all = subst (Perm given) (sym e) (sort-is_perm given);
      none_nearer = parted (take k s) (drop k s) (subst Ascending (sym e) (ascending-sort given G));
    }

-- ---- and no other list is

-- what is nearer than none of a list goes behind it
behind : (e : Neighbor) (l : List Neighbor) → All (λ (y : Neighbor). before e y ≡ false) l → length l ≤ place e l
behind e [] N = omega arith
behind e (y ∷ l) N = let p = place-later e y l N.0 in let q = behind e l N.1 in omega arith

one-behind : (e : Neighbor) (rest l : List Neighbor) → All (NoneNearer (e ∷ rest)) l → All (λ (y : Neighbor). before e y ≡ false) l
one-behind e rest [] N = tt
one-behind e rest (y ∷ l) N = (sym (nearer-is e y) ∙ N.0.0, one-behind e rest l N.1)

others-behind : (e : Neighbor) (rest l : List Neighbor) → All (NoneNearer (e ∷ rest)) l → All (NoneNearer rest) l
others-behind e rest [] N = tt
others-behind e rest (y ∷ l) N = (N.0.1, others-behind e rest l N.1)

all-behind : (k : ℕ) (rest l : List Neighbor) → length l ≡ k → All (NoneNearer rest) l → take k (insert_all rest l) ≡ l
unfolding insert_all through
all-behind k [] l h N = take_all k l (omega arith)
all-behind k (e ∷ rest) l h N =
    let p = behind e l (one-behind e rest l N) in
    same-insert_all k rest (insert e l) l (take-before k e l (omega arith)) ∙ all-behind k rest l h (others-behind e rest l N)

pub least_only : (k : ℕ) (given list : List Neighbor) → AllHoldable given → IsLeast k given list → list ≡ least k given
unfolding least
least_only k given list G I =
    let H = holdable_perm I.all G in
    let L = front list I.rest H in
    sym (all-behind k I.rest list I.long I.none_nearer)
    ∙ ap (λ (l : List Neighbor). take k (insert_all I.rest l)) (sym (sort-ascending list L (ascends list I.ordered)))
    ∙ ap (take k) (sym (sort-append list I.rest) ∙ sym (sort_perm I.all G))
  where
    front : (xs ys : List Neighbor) → AllHoldable (xs ++ ys) → AllHoldable xs
    front [] ys H = tt
    front (x ∷ xs) ys H = (H.0, front xs ys H.1)
