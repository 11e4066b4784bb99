-- Laws of rearranged lists. Assumes nothing.
use mathlib.Core.Path.{◌≡◌, refl, sym, ap, ◌∙◌, subst}
use mathlib.Core.List.{List, [], ◌∷◌, ◌++◌, map, append-nil}
use Prim.Native.Nat.{suc}
use lib.ListN.{length}
use Rattle.lists.specs.Ascending.{Perm, same, next, exchange, chain}

module _ {A : Type 0} where
  pub perm_back : {xs ys : List A} → Perm xs ys → Perm ys xs
  perm_back same = same
  perm_back (next p) = next (perm_back p)
  perm_back exchange = exchange
  perm_back (chain p q) = chain (perm_back q) (perm_back p)

  pub perm_length : {xs ys : List A} → Perm xs ys → length xs ≡ length ys
  perm_length same = refl
  perm_length (next p) = ap suc (perm_length p)
  perm_length exchange = refl
  perm_length (chain p q) = perm_length p ∙ perm_length q

  pub perm_front : (zs : List A) {xs ys : List A} → Perm xs ys → Perm (zs ++ xs) (zs ++ ys)
  perm_front [] p = p
  perm_front (z ∷ zs) p = next (perm_front zs p)

  pub perm_end : (zs : List A) {xs ys : List A} → Perm xs ys → Perm (xs ++ zs) (ys ++ zs)
  perm_end zs same = same
  perm_end zs (next p) = next (perm_end zs p)
  perm_end zs exchange = exchange
  perm_end zs (chain p q) = chain (perm_end zs p) (perm_end zs q)

  -- one of a list may stand first
  pub perm_first : (x : A) (xs ys : List A) → Perm (x ∷ (xs ++ ys)) (xs ++ x ∷ ys)
  perm_first x [] ys = same
  perm_first x (y ∷ xs) ys = chain exchange (next (perm_first x xs ys))

  pub perm_append : (xs ys : List A) → Perm (xs ++ ys) (ys ++ xs)
  perm_append [] ys = subst (λ (l : List A). Perm ys l) (sym (append-nil ys)) same
  perm_append (x ∷ xs) ys = chain (next (perm_append xs ys)) (perm_first x ys xs)

pub perm_map : {A B : Type 0} (f : A → B) {xs ys : List A} → Perm xs ys → Perm (map f xs) (map f ys)
perm_map f same = same
perm_map f (next p) = next (perm_map f p)
perm_map f exchange = exchange
perm_map f (chain p q) = chain (perm_map f p) (perm_map f q)
