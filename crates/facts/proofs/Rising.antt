-- An ascending list that holds no node twice rises. Assumes nothing.
use mathlib.Core.Path.{◌≡◌, refl, sym, ap, ◌∙◌}
use mathlib.Core.Bool.{Bool, true, false, ◌||◌, true≢false}
use mathlib.Core.List.{List, [], ◌∷◌}
use borrow.Author.Tests.{eq-eqb}
use Rattle.rules.specs.declared.Neighbor.{Neighbor}
use Rattle.rules.specs.Loops.{has}
use Rattle.rules.specs.Distance.{before}
use Rattle.rules.specs.Lists.{node_of, nodes_of}
use Rattle.rules.proofs.Tests.{together}
use Rattle.neighbor.specs.Holdable.{Holdable}
use Rattle.neighbor.proofs.Order.{total}
use Rattle.lists.specs.Ascending.{AllHoldable, NoneBefore, Ascending}
use Rattle.facts.specs.Different.{different}
use Rattle.facts.specs.Rising.{leads, rising}
use Rattle.facts.proofs.Different.{different-first, different-later}

leads_of : (x : Neighbor) (ys : List Neighbor) → Holdable x.distance → AllHoldable ys → NoneBefore x ys → Ascending ys → different (nodes_of (x ∷ ys)) ≡ true → leads x ys ≡ true
unfolding leads nodes_of has
leads_of x [] X Y n s h = refl
leads_of x (y ∷ ys) X Y n s h =
    together (before x y) (leads y ys) (go (before x y) refl) (leads_of y ys Y.0 Y.1 s.0 s.1 (different-later (node_of x) (nodes_of (y ∷ ys)) h))
  where
    go : (b : Bool) → before x y ≡ b → b ≡ true
    go true e = refl
    go false e =
        let one : node_of x ≡ node_of y = ap node_of (total x y X Y.0 e n.0) in
        absurd (true≢false (ap (λ (b : Bool). b || has (node_of x) (nodes_of ys)) (sym (eq-eqb (node_of x) (node_of y) one)) ∙ different-first (node_of x) (nodes_of (y ∷ ys)) h))

pub rising_of : (xs : List Neighbor) → AllHoldable xs → Ascending xs → different (nodes_of xs) ≡ true → rising xs ≡ true
unfolding rising
rising_of [] X s h = refl
rising_of (x ∷ xs) X s h = leads_of x xs X.0 X.1 s.0 s.1 h
