-- What the four steps of an offer come to. Assumes nothing.
use mathlib.Core.Path.{◌≡◌, refl, sym, ap, ◌∙◌}
use mathlib.Core.Bool.{Bool, true, false, not}
use mathlib.Core.List.{List}
use Prim.Native.Nat.{ℕ, suc, ◌-◌, ◌≤◌, ◌<◌}
use native.Mathlib.Omega.{arith}
use borrow.Author.Tests.{lt-ltb, le-ltb, ne_eqb, ltb-true}
use lib.ListN.{length, take, get_or}
use lib.Seq.{take_all}
use lib.Ieee.{binary32, lt, to_bits}
use Rattle.rules.specs.declared.Neighbor.{Neighbor}
use Rattle.rules.specs.Distance.{before, zero32}
use Rattle.rules.specs.Lists.{neighbor, insert}
use Rattle.rules.specs.Search.{farthest}
use Rattle.rules.specs.Offers.{look, pop, offer}
use Rattle.neighbor.specs.Holdable.{Holdable}
use Rattle.neighbor.proofs.Bits.{bits-lt, bits-eq}
use Rattle.lists.specs.Ascending.{AllHoldable, Ascending}
use Rattle.lists.proofs.Laws.{length-insert, holdable_at, take_behind}

-- ---- an offer to a list of exactly k

pub offer-taken : (k : ℕ) (e : Neighbor) (l : List Neighbor) → length l ≡ k → look e l ≡ true → offer k e l ≡ take k (insert e l)
unfolding offer pop
offer-taken k e l long t =
    let more = length-insert e l in
    let one : length (insert e l) - 1 ≡ k = omega arith in
    rw (t, lt-ltb k (length (insert e l)) (omega arith), one)

pub offer-left : (k : ℕ) (e : Neighbor) (l : List Neighbor) → look e l ≡ false → offer k e l ≡ l
unfolding offer
offer-left k e l t = rw t

-- what is farther than the last does not precede it
farther : (e x : Neighbor) → Holdable e.distance → Holdable x.distance → lt x.distance e.distance ≡ true → before e x ≡ false
unfolding before
farther e x E X h =
    let a = to_bits binary32 x.distance in
    let b = to_bits binary32 e.distance in
    let l : a < b = ltb-true a b (sym (bits-lt x.distance e.distance X E) ∙ h) in
    rw (bits-lt e.distance x.distance E X, bits-eq e.distance x.distance E X, le-ltb b a (omega arith), ne_eqb b a (λ q. omega arith))

-- "the four steps with none in between" keep the least k
pub offer-least : (k : ℕ) (e : Neighbor) (l : List Neighbor) → 1 ≤ k → length l ≡ k → Holdable e.distance → AllHoldable l → Ascending l → offer k e l ≡ take k (insert e l)
unfolding look farthest
offer-least k e l some long E X s = go (lt (farthest l) e.distance) refl
  where
    z : Neighbor
    z = neighbor 0 zero32

    go : (b : Bool) → lt (farthest l) e.distance ≡ b → offer k e l ≡ take k (insert e l)
    go true h =
        let last = get_or l (length l - 1) z in
        let b : before e last ≡ false = farther e last E (holdable_at l (length l - 1) z X (omega arith)) h in
        let c : suc (length l - 1) ≡ k = omega arith in
        let t : take (suc (length l - 1)) (insert e l) ≡ take (suc (length l - 1)) l = take_behind e l (length l - 1) z E X s (omega arith) b in
        offer-left k e l (ap not h) ∙ sym (rw c at t ∙ take_all k l (omega arith))
    go false h = offer-taken k e l long (ap not h)
