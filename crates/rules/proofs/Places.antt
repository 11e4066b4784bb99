-- Laws of places inside lent state: padding, parts, flags, and the members of a context. Assumes nothing.
use mathlib.Core.Path.{◌≡◌, refl, ap, ◌∙◌}
use mathlib.Core.Bool.{Bool, true, false}
use mathlib.Core.List.{List, [], ◌∷◌}
use Prim.Native.Nat.{ℕ, zero, suc, ◌+◌, ◌-◌, ◌*◌, ◌≤◌}
use native.Mathlib.Omega.{arith}
use lib.Dec.{eqb}
use lib.ListN.{length, take, drop, replicate, length-append, length-replicate, length-take, length-drop}
use lib.Seq.{take-take, length-take-le}
use Rattle.rules.specs.Numbers.{most}
use Rattle.rules.specs.Loops.{part}
use Rattle.rules.specs.Relay.{bit}
use Rattle.rules.specs.Places.{padded}
use Rattle.rules.specs.DescentPlaces.{member_words, members_in}

pub length-padded : {A : Type 0} (n : ℕ) (z : A) (xs : List A) → length xs ≤ n → length (padded n z xs) ≡ n
unfolding padded
length-padded n z xs h = simp (length-append, length-replicate) (omega arith)

pub drop-replicate : {A : Type 0} (a b : ℕ) (z : A) → drop a (replicate b z) ≡ replicate (b - a) z
drop-replicate zero b z = ap (λ (i : ℕ). replicate i z) (let e : b ≡ b - 0 = omega arith in e)
drop-replicate (suc a) zero z = ap (λ (i : ℕ). replicate i z) (let e : 0 ≡ 0 - suc a = omega arith in e)
drop-replicate (suc a) (suc b) z = drop-replicate a b z ∙ ap (λ (i : ℕ). replicate i z) (let e : b - a ≡ suc b - suc a = omega arith in e)

-- a part that lies within is whole
pub part-long : {A : Type 0} (k w : ℕ) (xs : List A) → w * k + k ≤ length xs → length (part k w xs) ≡ k
unfolding part
part-long k w xs h = length-take-le k (drop (w * k) xs) (simp length-drop (omega arith))

-- a flag that is read back
pub bit_is : (b : Bool) → eqb (bit b) 1 ≡ b
bit_is true = refl
bit_is false = refl

-- ---- the members of a context, in a length and 64 places

pub length-member_words : (xs : List ℕ) → length xs ≤ 64 → length (member_words xs) ≡ 65
unfolding member_words
length-member_words xs h = ap suc (length-padded most 0 xs h)

pub length-members : (us : List ℕ) → length (members_in us) ≤ 64
unfolding members_in
length-members us = simp length-take (omega arith)

-- what stands behind them is not read
pub members-front : (us : List ℕ) → members_in (take 65 us) ≡ members_in us
unfolding members_in
members-front [] = refl
members-front (u ∷ us) = ap (take u) (take-take 64 64 us (omega arith))
