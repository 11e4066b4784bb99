-- Jobs in lent words and floats are read back. Assumes nothing.
use mathlib.Core.Path.{◌≡◌, refl, ap, ◌∙◌}
use mathlib.Core.Bool.{Bool, false}
use mathlib.Core.List.{List, [], ◌∷◌, ◌++◌, map}
use Prim.Native.Nat.{ℕ, zero, suc, ◌+◌, ◌-◌, ◌*◌, ◌<◌}
use native.Mathlib.Omega.{arith}
use lib.Dec.{eqb}
use lib.ListN.{length, drop, get_or, length-map}
use lib.Ieee.{Float}
use Rattle.rules.specs.Relay.{Stage, fresh, looked, pushed, measured, popped, steps_of, is_popped, taken_of, longer_of, Job, bit, no_job}
use Rattle.rules.specs.Places.{padded}
use Rattle.rules.specs.RelayPlaces.{job_words, jobs_words, jobs_floats, stage_in, job_in}
use Rattle.rules.proofs.Places.{bit_is}
use Rattle.encoded.specs.Words.{joined, Rows, Readable}
use Rattle.encoded.proofs.Rows.{length-joined, drop-joined, get_d_mapped}

-- ---- one job

pub length-job_words : (j : Job) → length (job_words j) ≡ 15
unfolding job_words padded
length-job_words j = refl

pub job-back : (j : Job) (xs : List ℕ) → Readable j → job_in (job_words j ++ xs) j.distance ≡ j
unfolding job_in job_words padded stage_in steps_of taken_of longer_of is_popped
job-back j xs o =
    λ i. record {
      u = j.u;
      v = j.v;
      distance = j.distance;
      first = one j.first j.second o i;
      second = two j.first j.second o i;
    }
  where
    one : (s t : Stage) → (is_popped s ≡ false → t ≡ fresh) → stage_in (steps_of s + steps_of t) (eqb (bit (taken_of s)) 1) (eqb (bit (longer_of s)) 1) ≡ s
    one fresh t o = rw (o refl)
    one (looked a) t o = rw (o refl) (ap looked (bit_is a))
    one (pushed a) t o = rw (o refl) (ap pushed (bit_is a))
    one (measured a b) t o = rw (o refl) (rw (bit_is a, bit_is b))
    one (popped a b) fresh o = rw (bit_is a, bit_is b)
    one (popped a b) (looked c) o = rw (bit_is a, bit_is b)
    one (popped a b) (pushed c) o = rw (bit_is a, bit_is b)
    one (popped a b) (measured c d) o = rw (bit_is a, bit_is b)
    one (popped a b) (popped c d) o = rw (bit_is a, bit_is b)

    two : (s t : Stage) → (is_popped s ≡ false → t ≡ fresh) → stage_in (steps_of s + steps_of t - 4) (eqb (bit (taken_of t)) 1) (eqb (bit (longer_of t)) 1) ≡ t
    two fresh t o = rw (o refl)
    two (looked a) t o = rw (o refl)
    two (pushed a) t o = rw (o refl)
    two (measured a b) t o = rw (o refl)
    two (popped a b) fresh o = refl
    two (popped a b) (looked c) o = ap looked (bit_is c)
    two (popped a b) (pushed c) o = ap pushed (bit_is c)
    two (popped a b) (measured c d) o = rw (bit_is c, bit_is d)
    two (popped a b) (popped c d) o = rw (bit_is c, bit_is d)

-- what is read is readable
pub job-readable : (us : List ℕ) (x : Float) → Readable (job_in us x)
unfolding job_in stage_in is_popped
job-readable us x = go (get_or us 2 0) (eqb (get_or us 3 0) 1) (eqb (get_or us 4 0) 1) (eqb (get_or us 5 0) 1) (eqb (get_or us 6 0) 1)
  where
    go : (s : ℕ) (a b c d : Bool) → is_popped (stage_in s a b) ≡ false → stage_in (s - 4) c d ≡ fresh
    go zero a b c d h = refl
    go (suc zero) a b c d h = refl
    go (suc (suc zero)) a b c d h = refl
    go (suc (suc (suc zero))) a b c d h = refl
    go (suc (suc (suc (suc s)))) a b c d h = let z : ◌≡◌ {A = ℕ} 0 1 = cc in absurd (omega arith)

-- ---- all jobs

pub jobs-words : (js : List Job) → jobs_words js ≡ joined (map job_words js)
unfolding jobs_words joined
jobs-words [] = refl
jobs-words (j ∷ js) = ap (λ (r : List ℕ). job_words j ++ r) (jobs-words js)

pub job-rows : (js : List Job) → Rows 15 (map job_words js)
job-rows [] = tt
job-rows (j ∷ js) = (length-job_words j, job-rows js)

pub length-jobs_words : (js : List Job) → length (jobs_words js) ≡ length js * 15
length-jobs_words js = ap length (jobs-words js) ∙ length-joined 15 (map job_words js) (job-rows js) ∙ ap (λ (i : ℕ). i * 15) (length-map js job_words)

pub jobs-floats : (js : List Job) → jobs_floats js ≡ map (λ (j : Job). j.distance) js
unfolding jobs_floats
jobs-floats [] = refl
jobs-floats (j ∷ js) = ap (λ (r : List Float). j.distance ∷ r) (jobs-floats js)

pub length-jobs_floats : (js : List Job) → length (jobs_floats js) ≡ length js
length-jobs_floats js = ap length (jobs-floats js) ∙ length-map js (λ (j : Job). j.distance)

-- job i's words, and what stands behind them
pub drop-jobs : (js : List Job) (xs : List ℕ) (i : ℕ) → i < length js
    → drop (i * 15) (jobs_words js ++ xs) ≡ job_words (get_or js i no_job) ++ (joined (drop (suc i) (map job_words js)) ++ xs)
drop-jobs js xs i h =
    ap (λ (l : List ℕ). drop (i * 15) (l ++ xs)) (jobs-words js)
    ∙ drop-joined 15 (map job_words js) xs i (job-rows js) (let e = length-map js job_words in omega arith)
    ∙ ap (λ (l : List ℕ). l ++ (joined (drop (suc i) (map job_words js)) ++ xs)) (get_d_mapped job_words js i [] no_job h)
