-- Laws of `has` and `different`: lists rearranged, cut, put behind one another. Assumes nothing.
use mathlib.Core.Path.{◌≡◌, refl, sym, ◌∙◌, subst}
use mathlib.Core.Bool.{Bool, true, false, ◌||◌, true≢false}
use mathlib.Core.List.{List, [], ◌∷◌, ◌++◌, append-nil}
use Prim.Native.Nat.{ℕ, zero, suc, ◌≤◌, ◌<◌}
use native.Mathlib.Omega.{arith}
use borrow.Author.Tests.{eq-eqb}
use lib.Dec.{eqb}
use lib.ListN.{length, take, get_or}
use lib.Seq.{take-suc, take-length}
use Rattle.rules.specs.declared.Neighbor.{Neighbor}
use Rattle.rules.specs.Loops.{has}
use Rattle.rules.specs.Lists.{node_of, nodes_of, insert}
use Rattle.lists.specs.All.{All}
use Rattle.lists.proofs.Perm.{perm_first, perm_end, perm_map}
use Rattle.lists.proofs.Plain.{all_weaker}
use Rattle.lists.proofs.Laws.{insert-is_perm}
use Rattle.rules.proofs.Tests.{neither}
use Rattle.facts.specs.Different.{different}
use Rattle.facts.proofs.Different.{has-append, has_perm, has-each, different_perm, different-new, different-first, different-later, different-last}

pub or_right : (a b : Bool) → b ≡ true → (a || b) ≡ true
or_right true b e = refl
or_right false b e = e

-- ---- what is in a list

pub has-insert : (v : ℕ) (e : Neighbor) (xs : List Neighbor) → has v (nodes_of (insert e xs)) ≡ (eqb v (node_of e) || has v (nodes_of xs))
unfolding nodes_of has
has-insert v e xs = sym (has_perm v (perm_map node_of (insert-is_perm e xs)))

pub all_in : (xs : List ℕ) → All (λ (v : ℕ). has v xs ≡ true) xs
unfolding has
all_in [] = tt
all_in (x ∷ xs) = (
  rw (eq-eqb x x refl),
  all_weaker (λ (v : ℕ). has v xs ≡ true) (λ (v : ℕ). (eqb v x || has v xs) ≡ true) (λ (v : ℕ) h. or_right (eqb v x) (has v xs) h) xs (all_in xs),
)

-- of one a test holds, and of each of a list it does not
pub not_in : (p : ℕ → Bool) (v : ℕ) (xs : List ℕ) → p v ≡ true → All (λ (w : ℕ). p w ≡ false) xs → has v xs ≡ false
not_in p v xs h A = go (has v xs) refl
  where
    go : (b : Bool) → has v xs ≡ b → b ≡ false
    go true e = absurd (true≢false (sym h ∙ has-each v (λ (w : ℕ). p w ≡ false) xs A e))
    go false e = refl

-- ---- no number twice

pub different-append : (xs ys : List ℕ) → different xs ≡ true → different ys ≡ true → All (λ (v : ℕ). has v ys ≡ false) xs → different (xs ++ ys) ≡ true
different-append [] ys d e A = e
different-append (x ∷ xs) ys d e A =
    different-new x (xs ++ ys) (has-append x xs ys ∙ rw (different-first x xs d) A.0) (different-append xs ys (different-later x xs d) e A.1)

-- each of the places is new, so all are different
pub different_places : (xs : List ℕ) → ((i : ℕ) → i < length xs → has (get_or xs i 0) (take i xs) ≡ false) → different xs ≡ true
unfolding different
different_places xs new = subst (λ (l : List ℕ). different l ≡ true) (take-length xs) (first (length xs) (omega arith))
  where
    first : (i : ℕ) → i ≤ length xs → different (take i xs) ≡ true
    first zero h = refl
    first (suc i) h = rw (take-suc xs i 0 h) (different-last (get_or xs i 0) (take i xs) (new i h) (first i (omega arith)))

-- ---- entries cut off

has_cut : (v j : ℕ) (xs ys : List Neighbor) → has v (nodes_of (xs ++ ys)) ≡ false → has v (nodes_of (take j xs ++ ys)) ≡ false
unfolding nodes_of has
has_cut v zero [] ys h = h
has_cut v zero (x ∷ xs) ys h = has_cut v zero xs ys (neither (eqb v (node_of x)) (has v (nodes_of (xs ++ ys))) h).1
has_cut v (suc j) [] ys h = h
has_cut v (suc j) (x ∷ xs) ys h =
    let p = neither (eqb v (node_of x)) (has v (nodes_of (xs ++ ys))) h in rw p.0 (has_cut v j xs ys p.1)

pub different_cut : (j : ℕ) (xs ys : List Neighbor) → different (nodes_of (xs ++ ys)) ≡ true → different (nodes_of (take j xs ++ ys)) ≡ true
unfolding nodes_of
different_cut zero [] ys d = d
different_cut zero (x ∷ xs) ys d = different_cut zero xs ys (different-later (node_of x) (nodes_of (xs ++ ys)) d)
different_cut (suc j) [] ys d = d
different_cut (suc j) (x ∷ xs) ys d =
    different-new (node_of x) (nodes_of (take j xs ++ ys)) (has_cut (node_of x) j xs ys (different-first (node_of x) (nodes_of (xs ++ ys)) d))
    (different_cut j xs ys (different-later (node_of x) (nodes_of (xs ++ ys)) d))

pub different-take : (j : ℕ) (xs : List Neighbor) → different (nodes_of xs) ≡ true → different (nodes_of (take j xs)) ≡ true
different-take j xs d =
    subst (λ (l : List Neighbor). different (nodes_of l) ≡ true) (append-nil (take j xs))
    (different_cut j xs [] (subst (λ (l : List Neighbor). different (nodes_of l) ≡ true) (sym (append-nil xs)) d))

-- an entry in front of others goes in order among those before it
pub different-insert : (e : Neighbor) (xs ys : List Neighbor) → different (nodes_of (xs ++ (e ∷ ys))) ≡ true → different (nodes_of (insert e xs ++ ys)) ≡ true
unfolding nodes_of
different-insert e xs ys d =
    sym (different_perm (perm_map node_of (perm_end ys (insert-is_perm e xs)))) ∙ different_perm (perm_map node_of (perm_first e xs ys)) ∙ d
