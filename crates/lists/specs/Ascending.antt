-- The words that the laws of lists are said in: lists that can be held, ascending lists, rearranged lists. Assumes nothing.
use Rattle.std.specs.Prelude.{◌≡◌, false, List, [], ◌∷◌}
use Rattle.rules.specs.declared.Neighbor.{Neighbor}
use Rattle.rules.specs.Distance.{before}
use Rattle.neighbor.specs.Holdable.{Holdable}

-- each distance is one that a list can hold
abbrev pub AllHoldable : List Neighbor → Type 0
AllHoldable [] = Unit {0}
AllHoldable (x ∷ xs) = Holdable x.distance × AllHoldable xs

-- no entry of the list precedes e
abbrev pub NoneBefore : Neighbor → List Neighbor → Type 0
NoneBefore e [] = Unit {0}
NoneBefore e (x ∷ xs) = (before x e ≡ false) × NoneBefore e xs

-- no entry precedes one that stands in front of it
abbrev pub Ascending : List Neighbor → Type 0
Ascending [] = Unit {0}
Ascending (x ∷ xs) = NoneBefore x xs × Ascending xs

-- the same members, as often, in another order
pub data Perm {A : Type 0} : List A → List A → Type 0 where
  same : {xs : List A} → Perm xs xs
  next : {x : A} {xs ys : List A} → Perm xs ys → Perm (x ∷ xs) (x ∷ ys)
  exchange : {x y : A} {xs : List A} → Perm (x ∷ y ∷ xs) (y ∷ x ∷ xs)
  chain : {xs ys zs : List A} → Perm xs ys → Perm ys zs → Perm xs zs
