-- Rows and verdicts: which row decides, and that a table passes exactly when the test of each of its rows fails. Assumes nothing.
use mathlib.Core.Path.{◌≡◌, refl, ◌∙◌}
use mathlib.Core.Bool.{Bool, true, false, cond}
use mathlib.Core.List.{List, [], ◌∷◌, ◌++◌}
use Prim.Native.Nat.{ℕ, ◌≤◌}
use native.Mathlib.Omega.{arith}
use borrow.Author.Tests.{ltb-false, eqb-true, eq-eqb, not-false, le-ltb}
use lib.Dec.{eqb, ltb}
use Rattle.rules.specs.Loops.{any_of}
use Rattle.rules.specs.Numbers.{outside}
use Rattle.rules.specs.Refusals.{Row, Code, passed, refused, decide, holds, not_exactly}
use Rattle.rules.proofs.Tests.{neither}

-- ---- a row in front of others

pub goes_on : (r : Row) (rs : List Row) → decide (r ∷ []) ≡ passed → decide (r ∷ rs) ≡ decide rs
unfolding decide
goes_on r rs h = go r.test h
  where
    go : (b : Bool) → cond b (refused r.gives) passed ≡ passed → cond b (refused r.gives) (decide rs) ≡ decide rs
    go true h = let z : ◌≡◌ {A = ℕ} 0 1 = cc in absurd (omega arith)
    go false h = refl

pub stops : (r : Row) (rs : List Row) (c : Code) → decide (r ∷ []) ≡ refused c → decide (r ∷ rs) ≡ refused c
unfolding decide
stops r rs c h = go r.test h
  where
    go : (b : Bool) → cond b (refused r.gives) passed ≡ refused c → cond b (refused r.gives) (decide rs) ≡ refused c
    go true h = h
    go false h = let z : ◌≡◌ {A = ℕ} 0 1 = cc in absurd (omega arith)

-- no row holds: not the first, and none of the others
pub passes : (r : Row) (rs : List Row) → decide (r ∷ rs) ≡ passed → (r.test ≡ false) × (decide rs ≡ passed)
unfolding decide
passes r rs h = go r.test refl h
  where
    go : (b : Bool) → r.test ≡ b → cond b (refused r.gives) (decide rs) ≡ passed → (r.test ≡ false) × (decide rs ≡ passed)
    go true e h = let z : ◌≡◌ {A = ℕ} 0 1 = cc in absurd (omega arith)
    go false e h = (e, h)

-- a row that holds decides; one that does not leaves it to the others
pub held : (r : Row) (rs : List Row) → r.test ≡ true → decide (r ∷ rs) ≡ refused r.gives
unfolding decide
held r rs e = rw e

pub left : (r : Row) (rs : List Row) → r.test ≡ false → decide (r ∷ rs) ≡ decide rs
unfolding decide
left r rs e = rw e

-- rows behind rows
pub decide-append : (rs qs : List Row) → decide rs ≡ passed → decide (rs ++ qs) ≡ decide qs
decide-append [] qs h = refl
decide-append (r ∷ rs) qs h =
    let p = passes r rs h in left r (rs ++ qs) p.0 ∙ decide-append rs qs p.1

pub decide-before : (rs qs : List Row) (c : Code) → decide rs ≡ refused c → decide (rs ++ qs) ≡ refused c
unfolding decide
decide-before [] qs c h = let z : ◌≡◌ {A = ℕ} 0 1 = cc in absurd (omega arith)
decide-before (r ∷ rs) qs c h = go r.test (decide-before rs qs c) h
  where
    go : (b : Bool) → (decide rs ≡ refused c → decide (rs ++ qs) ≡ refused c) → cond b (refused r.gives) (decide rs) ≡ refused c → cond b (refused r.gives) (decide (rs ++ qs)) ≡ refused c
    go true more h = h
    go false more h = more h

-- ---- none of the rows holds

abbrev pub Fail : List Row → Type 0
Fail [] = Unit {0}
Fail (r ∷ rs) = (r.test ≡ false) × Fail rs

pub all_fail : (rs : List Row) → decide rs ≡ passed → Fail rs
all_fail [] h = tt
all_fail (r ∷ rs) h = let p = passes r rs h in (p.0, all_fail rs p.1)

pub all_pass : (rs : List Row) → Fail rs → decide rs ≡ passed
unfolding decide
all_pass [] F = refl
all_pass (r ∷ rs) F = left r rs F.0 ∙ all_pass rs F.1

-- ---- the tests of a row with several

abbrev pub None : List Bool → Type 0
None [] = Unit {0}
None (b ∷ bs) = (b ≡ false) × None bs

pub none_hold : (bs : List Bool) → any_of holds bs ≡ false → None bs
unfolding any_of
none_hold [] h = tt
none_hold (b ∷ bs) h = let p = neither b (any_of holds bs) h in (p.0, none_hold bs p.1)

pub hold_none : (bs : List Bool) → None bs → any_of holds bs ≡ false
unfolding any_of
hold_none [] F = refl
hold_none (b ∷ bs) F = rw F.0 (hold_none bs F.1)

-- ---- lengths

pub exactly : (wanted len : ℕ) → not_exactly wanted len ≡ false → len ≡ wanted
exactly wanted len h = eqb-true len wanted (not-false (eqb len wanted) h)

pub is-exactly : (wanted len : ℕ) → len ≡ wanted → not_exactly wanted len ≡ false
is-exactly wanted len e = rw (eq-eqb len wanted e)

-- ---- ranges

pub record Within (low high x : ℕ) : Type 0 where
  pub from : low ≤ x
  pub to : x ≤ high

pub within : (low high x : ℕ) → outside low high x ≡ false → Within low high x
unfolding outside
within low high x h = let n = neither (ltb x low) (ltb high x) h in record { from = ltb-false x low n.0; to = ltb-false high x n.1 }

pub inside : (low high x : ℕ) → low ≤ x → x ≤ high → outside low high x ≡ false
unfolding outside
inside low high x a b = rw (le-ltb x low a, le-ltb high x b)
