-- "Order: by distance, then node number" is a strict total order, since it is the order of one number: bits and node. Assumes nothing.
use mathlib.Core.Path.{◌≡◌, refl, sym, ap, ◌∙◌}
use mathlib.Core.Bool.{Bool, true, false, ◌&&◌, ◌||◌}
use Prim.Native.Nat.{ℕ, suc, ◌+◌, ◌*◌, ◌≤◌, ◌<◌}
use native.Mathlib.Nat.{mul-le-mul_right, suc-mul}
use native.Mathlib.Omega.{arith}
use lib.Dec.{ltb, eqb}
use lib.Ieee.{binary32, to_bits}
use borrow.Author.Tests.{lt-ltb, le-ltb, ltb-true, ltb-false, eqb-true, eqb-false}
use Rattle.rules.specs.declared.Neighbor.{Neighbor}
use Rattle.rules.specs.Distance.{before}
use Rattle.rules.specs.Lists.{node_of}
use Rattle.neighbor.specs.Holdable.{Holdable}
use Rattle.neighbor.proofs.Bits.{bits-lt, bits-eq, bits-same}

abbrev key : ℕ → Neighbor → ℕ
key M a = to_bits binary32 a.distance * M + node_of a

-- where one number is less, the keys are far apart
apart : (M r s : ℕ) → r < s → r * M + M ≤ s * M
apart M r s h = let w : suc r * M ≤ s * M = mul-le-mul_right M h in let v = suc-mul r M in omega arith

before_key : (M : ℕ) (a b : Neighbor) → Holdable a.distance → Holdable b.distance → node_of a < M → node_of b < M → before a b ≡ ltb (key M a) (key M b)
unfolding before
before_key M a b A B I J =
    let r = to_bits binary32 a.distance in
    let s = to_bits binary32 b.distance in
    simp (bits-lt a.distance b.distance A B, bits-eq a.distance b.distance A B) (go r s (node_of a) (node_of b) I J (ltb r s) (eqb r s) refl refl)
  where
    go : (r s i j : ℕ) → i < M → j < M → (x y : Bool) → ltb r s ≡ x → eqb r s ≡ y → (x || (y && ltb i j)) ≡ ltb (r * M + i) (s * M + j)
    go r s i j I J true y e g = let h = apart M r s (ltb-true r s e) in sym (lt-ltb (r * M + i) (s * M + j) (omega arith))
    go r s i j I J false true e g = rw (eqb-true r s g) (same (ltb i j) refl)
      where
        same : (z : Bool) → ltb i j ≡ z → z ≡ ltb (s * M + i) (s * M + j)
        same true q = let h = ltb-true i j q in sym (lt-ltb (s * M + i) (s * M + j) (omega arith))
        same false q = let h = ltb-false i j q in sym (le-ltb (s * M + i) (s * M + j) (omega arith))
    go r s i j I J false false e g =
        let l = ltb-false r s e in
        let n = eqb-false r s g in
        let h = apart M s r (omega arith) in
        sym (le-ltb (r * M + i) (s * M + j) (omega arith))

pub irreflexive : (a : Neighbor) → Holdable a.distance → before a a ≡ false
irreflexive a A =
    let M = suc (node_of a) in
    before_key M a a A A (omega arith) (omega arith) ∙ le-ltb (key M a) (key M a) (omega arith)

pub transitive : (a b c : Neighbor) → Holdable a.distance → Holdable b.distance → Holdable c.distance
    → before a b ≡ true → before b c ≡ true → before a c ≡ true
transitive a b c A B C p q =
    let M = suc (node_of a + node_of b + node_of c) in
    let x = ltb-true (key M a) (key M b) (sym (before_key M a b A B (omega arith) (omega arith)) ∙ p) in
    let y = ltb-true (key M b) (key M c) (sym (before_key M b c B C (omega arith) (omega arith)) ∙ q) in
    before_key M a c A C (omega arith) (omega arith) ∙ lt-ltb (key M a) (key M c) (omega arith)

-- at most one of two precedes the other
pub asymmetric : (a b : Neighbor) → Holdable a.distance → Holdable b.distance → before a b ≡ true → before b a ≡ false
asymmetric a b A B p =
    let M = suc (node_of a + node_of b) in
    let x = ltb-true (key M a) (key M b) (sym (before_key M a b A B (omega arith) (omega arith)) ∙ p) in
    before_key M b a B A (omega arith) (omega arith) ∙ le-ltb (key M b) (key M a) (omega arith)

-- numbers whose keys are equal are equal
same_high : (M r s i j : ℕ) → i < M → j < M → r * M + i ≡ s * M + j → r ≡ s
same_high M r s i j I J h = go (ltb r s) (ltb s r) refl refl
  where
    go : (x y : Bool) → ltb r s ≡ x → ltb s r ≡ y → r ≡ s
    go true y e g = let w = apart M r s (ltb-true r s e) in absurd (omega arith)
    go false true e g = let w = apart M s r (ltb-true s r g) in absurd (omega arith)
    go false false e g = let w = ltb-false r s e in let v = ltb-false s r g in omega arith

-- neither before the other: one entry
pub total : (a b : Neighbor) → Holdable a.distance → Holdable b.distance → before a b ≡ false → before b a ≡ false → a ≡ b
total a b A B p q =
    let M = suc (node_of a + node_of b) in
    let r = to_bits binary32 a.distance in
    let s = to_bits binary32 b.distance in
    let x = ltb-false (key M a) (key M b) (sym (before_key M a b A B (omega arith) (omega arith)) ∙ p) in
    let y = ltb-false (key M b) (key M a) (sym (before_key M b a B A (omega arith) (omega arith)) ∙ q) in
    let e : r ≡ s = same_high M r s (node_of a) (node_of b) (omega arith) (omega arith) (omega arith) in
    let d : a.distance ≡ b.distance = bits-same a.distance b.distance A.held B.held e in
    let w : r * M ≡ s * M = ap (λ (z : ℕ). z * M) e in
    let n : node_of a ≡ node_of b = omega arith in
    λ k. record { node = record { 0 = n k }; distance = d k }
