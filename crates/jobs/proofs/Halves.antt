-- One half of a job: its report and its measure at each of its steps. Assumes nothing.
use mathlib.Core.Path.{◌≡◌, refl, ap}
use mathlib.Core.Bool.{Bool, true, false, not, ◌&&◌}
use Prim.Native.Nat.{ℕ, zero, suc, ◌≤◌}
use native.Mathlib.Omega.{arith}
use borrow.Author.Tests.{le-leb, lt-leb}
use lib.Dec.{eqb, leb}
use Rattle.std.proofs.lemmas.Bool.Decides.{nat_tests}
use Rattle.rules.specs.Relay.{taken_of, longer_of, bit}
use Rattle.rules.specs.RelayPlaces.{stage_in, stage_formed, pending}
use Rattle.jobs.specs.Jobs.{half_formed}

and-true : (b : Bool) → (b && true) ≡ b
and-true true = refl
and-true false = refl

-- ---- its report is 1 or 0, and 0 where the nodes are equal

abbrev fair : Bool → ℕ → Bool
fair equal taken = leb taken (bit (not equal))

early : (equal : Bool) (t l : ℕ) → (eqb t (bit (eqb t 1)) && (eqb l 0 && not (equal && eqb t 1))) ≡ (fair equal t && eqb l 0)
early true t l = grind (arith, nat_tests)
early false t l = grind (arith, nat_tests)

late : (equal : Bool) (t l : ℕ) → (eqb t (bit (eqb t 1)) && (eqb l (bit (eqb l 1)) && (not (equal && eqb t 1) && eqb (bit (eqb t 1)) (bit (eqb l 1))))) ≡ (fair equal t && eqb l t)
late true t l = grind (arith, nat_tests)
late false t l = grind (arith, nat_tests)

-- before its look
pub half_fresh : (equal : Bool) (steps taken longer : ℕ) → steps ≡ 0 → half_formed equal steps taken longer ≡ (eqb taken 0 && eqb longer 0)
unfolding half_formed stage_in taken_of longer_of stage_formed
half_fresh equal steps taken longer s = rw s (ap (λ (b : Bool). eqb taken 0 && b) (and-true (eqb longer 0)))

-- before its measure
pub half_looked : (equal : Bool) (steps taken longer : ℕ) → 1 ≤ steps → steps ≤ 2 → half_formed equal steps taken longer ≡ (fair equal taken && eqb longer 0)
unfolding half_formed stage_in taken_of longer_of stage_formed
half_looked equal zero taken longer h l = absurd (omega arith)
half_looked equal (suc zero) taken longer h l = early equal taken longer
half_looked equal (suc (suc zero)) taken longer h l = early equal taken longer
half_looked equal (suc (suc (suc s))) taken longer h l = absurd (omega arith)

-- behind it
pub half_measured : (equal : Bool) (steps taken longer : ℕ) → 3 ≤ steps → half_formed equal steps taken longer ≡ (fair equal taken && eqb longer taken)
unfolding half_formed stage_in taken_of longer_of stage_formed
half_measured equal zero taken longer h = absurd (omega arith)
half_measured equal (suc zero) taken longer h = absurd (omega arith)
half_measured equal (suc (suc zero)) taken longer h = absurd (omega arith)
half_measured equal (suc (suc (suc zero))) taken longer h = late equal taken longer
half_measured equal (suc (suc (suc (suc s)))) taken longer h = late equal taken longer

-- ---- pushed and not yet popped

pub pending_is : (steps : ℕ) (taken longer : Bool) → pending (stage_in steps taken longer) ≡ bit (taken && (leb 2 steps && leb steps 3))
unfolding pending stage_in
pending_is zero true longer = refl
pending_is zero false longer = refl
pending_is (suc zero) true longer = refl
pending_is (suc zero) false longer = refl
pending_is (suc (suc zero)) true longer = refl
pending_is (suc (suc zero)) false longer = refl
pending_is (suc (suc (suc zero))) true longer = refl
pending_is (suc (suc (suc zero))) false longer = refl
pending_is (suc (suc (suc (suc s)))) true longer = rw (lt-leb (suc (suc (suc (suc s)))) 3 (omega arith), le-leb 2 (suc (suc (suc (suc s)))) (omega arith))
pending_is (suc (suc (suc (suc s)))) false longer = refl

-- ---- what the tests of a half follow from

pub ruleset half_laws = (half_fresh, half_looked, half_measured, pending_is, nat_tests)
