-- The steps that half a job has done, and what is reported of jobs. Assumes nothing.
use mathlib.Core.Path.{◌≡◌, refl, sym}
use mathlib.Core.Bool.{Bool, true, false, true≢false}
use mathlib.Core.List.{List, [], ◌∷◌}
use Prim.Native.Nat.{ℕ, zero, suc, ◌+◌, ◌*◌, ◌≤◌, ◌<◌}
use native.Mathlib.Nat.{le_of_suc-le-suc, not-suc-le-zero}
use native.Mathlib.Omega.{arith}
use lib.ListN.{length, get_or}
use Rattle.rules.specs.declared.Neighbor.{Neighbor}
use Rattle.rules.specs.Relay.{Stage, fresh, looked, pushed, measured, popped, steps_of, is_popped, taken_of, Job, next_stage, no_job, bit, reports_of}

-- ---- steps

pub steps_most : (s : Stage) → steps_of s ≤ 4
unfolding steps_of
steps_most fresh = omega arith
steps_most (looked taken) = omega arith
steps_most (pushed taken) = omega arith
steps_most (measured taken longer) = omega arith
steps_most (popped taken longer) = omega arith

pub steps_popped : (s : Stage) → is_popped s ≡ true → steps_of s ≡ 4
unfolding steps_of is_popped
steps_popped fresh h = absurd (true≢false (sym h))
steps_popped (looked taken) h = absurd (true≢false (sym h))
steps_popped (pushed taken) h = absurd (true≢false (sym h))
steps_popped (measured taken longer) h = absurd (true≢false (sym h))
steps_popped (popped taken longer) h = refl

pub steps_next : (k : ℕ) (equal : Bool) (e : Neighbor) (l : List Neighbor) (s : Stage) → is_popped s ≡ false → steps_of (next_stage k equal e l s) ≡ suc (steps_of s)
unfolding next_stage steps_of is_popped
steps_next k equal e l fresh h = refl
steps_next k equal e l (looked taken) h = refl
steps_next k equal e l (pushed taken) h = refl
steps_next k equal e l (measured taken longer) h = refl
steps_next k equal e l (popped taken longer) h = absurd (true≢false h)

-- ---- the reports that a close writes

pub length-reports : (js : List Job) → length (reports_of js) ≡ 2 * length js
unfolding reports_of
length-reports [] = refl
length-reports (j ∷ js) = let e = length-reports js in omega arith

pub report_first : (js : List Job) (i : ℕ) → i < length js → get_or (reports_of js) (2 * i) 0 ≡ bit (taken_of (get_or js i no_job).first)
unfolding reports_of
report_first [] i h = absurd (not-suc-le-zero h)
report_first (j ∷ js) zero h = refl
report_first (j ∷ js) (suc i) h = let e : 2 * suc i ≡ suc (suc (2 * i)) = omega arith in rw e (report_first js i (le_of_suc-le-suc h))

pub report_second : (js : List Job) (i : ℕ) → i < length js → get_or (reports_of js) (2 * i + 1) 0 ≡ bit (taken_of (get_or js i no_job).second)
unfolding reports_of
report_second [] i h = absurd (not-suc-le-zero h)
report_second (j ∷ js) zero h = refl
report_second (j ∷ js) (suc i) h = let e : 2 * suc i + 1 ≡ suc (suc (2 * i + 1)) = omega arith in rw e (report_second js i (le_of_suc-le-suc h))
