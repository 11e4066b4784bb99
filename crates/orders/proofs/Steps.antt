-- One step of one offer keeps the first k of what its list holds and waits for. Assumes nothing.
use mathlib.Core.Path.{◌≡◌, refl, sym, ap, ◌∙◌}
use mathlib.Core.Bool.{Bool, true, false, not, ◌&&◌, cond, true≢false}
use mathlib.Core.List.{List, [], ◌∷◌, ◌++◌, append-nil}
use Prim.Native.Nat.{ℕ, suc, ◌+◌, ◌-◌, ◌≤◌, ◌<◌, zero-le}
use native.Mathlib.Omega.{arith}
use lib.ListN.{length, take, drop, get_or, drop_of_length-le}
use lib.Seq.{take-take, length-take-le, take-append-le}
use lib.Ieee.{lt}
use borrow.Author.Tests.{not-false}
use Rattle.rules.specs.declared.Neighbor.{Neighbor}
use Rattle.rules.specs.Loops.{through}
use Rattle.rules.specs.Distance.{before, zero32}
use Rattle.rules.specs.Lists.{neighbor, insert, insert_all, place}
use Rattle.rules.specs.Search.{farthest}
use Rattle.rules.specs.Offers.{look, pop}
use Rattle.rules.specs.Relay.{Stage, fresh, looked, pushed, measured, popped, next_stage, next_list}
use Rattle.rules.specs.RelayPlaces.{stage_formed, pending}
use Rattle.rules.proofs.Tests.{both}
use Rattle.neighbor.specs.Holdable.{Holdable}
use Rattle.neighbor.proofs.Order.{asymmetric}
use Rattle.lists.specs.Ascending.{AllHoldable, Ascending}
use Rattle.lists.proofs.Laws.{take-before, place-behind, holdable_at}
use Rattle.relay_kept.specs.Formed.{ListFormed}
use Rattle.orders.specs.Steps.{look_takes, pop_last, waits, waiting}

-- ---- a look

nearer-first : (a b : Neighbor) → lt a.distance b.distance ≡ true → before a b ≡ true
unfolding before
nearer-first a b h = simp h

-- a refused offer goes behind all the list holds
refused-place : (e : Neighbor) (l : List Neighbor) → Holdable e.distance → AllHoldable l → Ascending l → look_takes e l ≡ false → length l ≤ place e l
unfolding look_takes farthest
refused-place e [] E L S h = zero-le
refused-place e (x ∷ l) E L S h =
    let z = neighbor 0 zero32 in
    let i = length (x ∷ l) - 1 in
    let last = get_or (x ∷ l) i z in
    let g : lt last.distance e.distance ≡ true = not-false (lt last.distance e.distance) h in
    let b = asymmetric last e (holdable_at (x ∷ l) i z L (omega arith)) E (nearer-first last e g) in
    let p = place-behind e (x ∷ l) i z E L S (omega arith) b in
    omega arith

-- so it is not among the first k
pub refused-look : (k : ℕ) (e : Neighbor) (l : List Neighbor) → Holdable e.distance → AllHoldable l → Ascending l → k ≤ length l → look_takes e l ≡ false
    → take k (insert e l) ≡ take k l
refused-look k e l E L S m h = let p = refused-place e l E L S h in take-before k e l (omega arith)

-- ---- a pop

pub popped-last : (k : ℕ) (l : List Neighbor) → k < length l → take k (pop_last l) ≡ take k l
unfolding pop_last
popped-last k l h =
    let e = length-take-le (length l - 1) l (omega arith) in
    take-append-le k (take (length l - 1) l) (drop (suc (length l - 1)) l) (omega arith) ∙ take-take k (length l - 1) l (omega arith)

-- ---- the rulebook's look and pop are these

look_is : (e : Neighbor) (l : List Neighbor) → look e l ≡ look_takes e l
unfolding look look_takes
look_is e l = refl

pop-is : (l : List Neighbor) → pop l ≡ pop_last l
unfolding pop pop_last
pop-is l =
    let e : drop (suc (length l - 1)) l ≡ [] = drop_of_length-le l {i = suc (length l - 1)} (omega arith) in
    sym (append-nil (take (length l - 1) l)) ∙ ap (λ (x : List Neighbor). take (length l - 1) l ++ x) (sym e)

-- ---- one step

module _ (n k : ℕ) (equal : Bool) (e : Neighbor) (l : List Neighbor) (E : Holdable e.distance) (L : ListFormed n l) where
  pub step_keeps : (s : Stage) → stage_formed equal s ≡ true → k + pending s ≤ length l
      → take k (insert_all (waiting equal e (next_stage k equal e l s)) (next_list e l s)) ≡ take k (insert_all (waiting equal e s) l)
  unfolding next_stage next_list waits insert_all through pending stage_formed
  step_keeps fresh f h = go equal (look e l) refl
    where
      go : (a b : Bool) → look e l ≡ b → take k (insert_all (cond (not a && b) (e ∷ []) []) l) ≡ take k (insert_all (cond (not a) (e ∷ []) []) l)
      go true b q = refl
      go false true q = refl
      go false false q = sym (refused-look k e l E L.held L.ascends (omega arith) (sym (look_is e l) ∙ q))
  step_keeps (looked true) f h = refl
  step_keeps (looked false) f h = refl
  step_keeps (pushed taken) f h = refl
  step_keeps (measured taken false) f h = refl
  step_keeps (measured true true) f h = ap (take k) (pop-is l) ∙ popped-last k l (omega arith)
  step_keeps (measured false true) f h = absurd (true≢false (sym (both (not (equal && false)) false f).1))
  step_keeps (popped taken longer) f h = refl
