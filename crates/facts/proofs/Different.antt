-- Laws of lists that hold no node twice, and of whether a list holds a node. Assumes nothing.
use mathlib.Core.Path.{◌≡◌, refl, sym, ap, ◌∙◌, subst}
use mathlib.Core.Bool.{Bool, true, false, not, ◌&&◌, ◌||◌, or_assoc, true≢false}
use mathlib.Core.List.{List, [], ◌∷◌, ◌++◌, reverse, reverse-cons, map-append}
use Prim.Native.Nat.{ℕ}
use lib.Dec.{eqb}
use borrow.Author.Tests.{eqb-true, eqb-false, eq-eqb, ne_eqb, not-true}
use Rattle.rules.specs.declared.Neighbor.{Neighbor}
use Rattle.rules.specs.Loops.{has}
use Rattle.rules.specs.Lists.{node_of, nodes_of}
use Rattle.lists.specs.All.{All}
use Rattle.lists.specs.Ascending.{Perm, same, next, exchange, chain}
use Rattle.lists.proofs.Perm.{perm_first, perm_append}
use Rattle.rules.proofs.Tests.{both, together}
use Rattle.facts.specs.Different.{different}

-- ---- whether a list holds a node

pub eqb_swap : (a b : ℕ) → eqb a b ≡ eqb b a
eqb_swap a b = go (eqb b a) refl
  where
    go : (t : Bool) → eqb b a ≡ t → eqb a b ≡ t
    go true e = eq-eqb a b (sym (eqb-true b a e))
    go false e = ne_eqb a b (λ (h : a ≡ b). eqb-false b a e (sym h))

or-exchange : (a b c : Bool) → (a || (b || c)) ≡ (b || (a || c))
or-exchange true true c = refl
or-exchange true false c = refl
or-exchange false b c = refl

module _ (v : ℕ) where
  pub has-append : (xs ys : List ℕ) → has v (xs ++ ys) ≡ (has v xs || has v ys)
  unfolding has
  has-append [] ys = refl
  has-append (x ∷ xs) ys = ap (λ (b : Bool). eqb v x || b) (has-append xs ys) ∙ sym (or_assoc (eqb v x) (has v xs) (has v ys))

  pub has_perm : {xs ys : List ℕ} → Perm xs ys → has v xs ≡ has v ys
  unfolding has
  has_perm same = refl
  has_perm (next {x = x} p) = ap (λ (b : Bool). eqb v x || b) (has_perm p)
  has_perm (exchange {x = x} {y = y} {xs = zs}) = or-exchange (eqb v x) (eqb v y) (has v zs)
  has_perm (chain p q) = has_perm p ∙ has_perm q

  -- what is a fact of each is one of a node that is held
  pub has-each : (P : ℕ → Type 0) (xs : List ℕ) → All P xs → has v xs ≡ true → P v
  unfolding has
  has-each P [] X h = absurd (true≢false (sym h))
  has-each P (x ∷ xs) X h = go (eqb v x) refl h (has-each P xs X.1)
    where
      go : (b : Bool) → eqb v x ≡ b → (b || has v xs) ≡ true → (has v xs ≡ true → P v) → P v
      go true e g ih = subst P (sym (eqb-true v x e)) X.0
      go false e g ih = ih g

  pub has_none : (xs : List ℕ) → All (λ (x : ℕ). v ≡ x → ⊥) xs → has v xs ≡ false
  unfolding has
  has_none [] X = refl
  has_none (x ∷ xs) X = rw (ne_eqb v x X.0) (has_none xs X.1)

-- ---- no node twice

swap-test : (e a b c : Bool) → (not (e || a) && (not b && c)) ≡ (not (e || b) && (not a && c))
swap-test true a b c = refl
swap-test false true true c = refl
swap-test false true false c = refl
swap-test false false true c = refl
swap-test false false false c = refl

pub different_perm : {xs ys : List ℕ} → Perm xs ys → different xs ≡ different ys
unfolding different has
different_perm same = refl
different_perm (next {x = x} {xs = xs} {ys = ys} p) =
    ap (λ (b : Bool). not b && different xs) (has_perm x p) ∙ ap (λ (b : Bool). not (has x ys) && b) (different_perm p)
different_perm (exchange {x = x} {y = y} {xs = zs}) =
    swap-test (eqb x y) (has x zs) (has y zs) (different zs)
    ∙ ap (λ (b : Bool). not (b || has y zs) && (not (has x zs) && different zs)) (eqb_swap x y)
different_perm (chain p q) = different_perm p ∙ different_perm q

module _ (x : ℕ) (xs : List ℕ) where
  pub different-new : has x xs ≡ false → different xs ≡ true → different (x ∷ xs) ≡ true
  unfolding different
  different-new h k = together (not (has x xs)) (different xs) (ap not h) k

  pub different-first : different (x ∷ xs) ≡ true → has x xs ≡ false
  unfolding different
  different-first h = not-true (has x xs) (both (not (has x xs)) (different xs) h).0

  pub different-later : different (x ∷ xs) ≡ true → different xs ≡ true
  unfolding different
  different-later h = (both (not (has x xs)) (different xs) h).1

  -- a new node behind
  pub different-last : has x xs ≡ false → different xs ≡ true → different (xs ++ (x ∷ [])) ≡ true
  different-last h k = sym (different_perm (perm_append (x ∷ []) xs)) ∙ different-new h k

-- one left out
pub different_without : (xs : List ℕ) (y : ℕ) (ys : List ℕ) → different (xs ++ (y ∷ ys)) ≡ true → different (xs ++ ys) ≡ true
different_without xs y ys h = different-later y (xs ++ ys) (different_perm (perm_first y xs ys) ∙ h)

-- the front
pub different-front : (xs ys : List ℕ) → different (xs ++ ys) ≡ true → different xs ≡ true
unfolding different
different-front [] ys h = refl
different-front (x ∷ xs) ys h = different-new x xs (go (has x xs) refl) (different-front xs ys (different-later x (xs ++ ys) h))
  where
    go : (b : Bool) → has x xs ≡ b → b ≡ false
    go true e = absurd (true≢false (ap (λ (b : Bool). b || has x ys) (sym e) ∙ sym (has-append x xs ys) ∙ different-first x (xs ++ ys) h))
    go false e = refl

-- ---- the nodes of entries

pub nodes-append : (xs ys : List Neighbor) → nodes_of (xs ++ ys) ≡ nodes_of xs ++ nodes_of ys
unfolding nodes_of
nodes-append xs ys = map-append node_of xs ys

pub perm_reverse : (xs : List ℕ) → Perm xs (reverse xs)
perm_reverse [] = same
perm_reverse (x ∷ xs) =
    subst (λ (l : List ℕ). Perm (x ∷ xs) l) (sym (reverse-cons x xs)) (chain (next (perm_reverse xs)) (perm_append (x ∷ []) (reverse xs)))
