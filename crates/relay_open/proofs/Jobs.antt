-- The jobs with no step done, written one behind the other. Assumes nothing.
use mathlib.Core.Path.{◌≡◌, refl, sym, ap, ◌∙◌}
use mathlib.Core.Bool.{cond}
use mathlib.Core.List.{List, [], ◌∷◌, ◌++◌, append_assoc, append-nil}
use Prim.Native.Nat.{ℕ, suc, ◌+◌, ◌-◌, ◌*◌, ◌≤◌, ◌<◌}
use native.Mathlib.Numerals.{add-one}
use native.Mathlib.Omega.{arith}
use lib.Dec.{eqb}
use lib.ListN.{length, set, replicate, length-append, length-replicate, replicate-append-replicate}
use lib.Seq.{set_at}
use lib.Ieee.{Float}
use Rattle.rules.specs.Loops.{each}
use Rattle.rules.specs.Distance.{zero32}
use Rattle.rules.specs.Refusals.{job_count, job_u, job_v}
use Rattle.rules.specs.Build.{Between}
use Rattle.rules.specs.Relay.{Job, job_of, steps_of, taken_of, longer_of}
use Rattle.rules.specs.Places.{padded}
use Rattle.rules.specs.RelayPlaces.{job_words, jobs_words, jobs_floats}
use Rattle.rules.proofs.Loops.{length-ones}
use Rattle.encoded.proofs.Jobs.{length-jobs_words, length-jobs_floats}
use Rattle.relay_open.specs.Open.{first_jobs, JobsWritten}

module _ {A : Type 0} (z : A) where
  -- the first of the zeros behind, written
  set_pad : (m : ℕ) (xs : List A) (x : A) (n : ℕ) → n ≡ length xs → length xs < m → set (padded m z xs) n x ≡ padded m z (xs ++ (x ∷ []))
  unfolding padded
  set_pad m xs x n e h =
      let one : m - length xs ≡ suc (m - suc (length xs)) = omega arith in
      let l = length-append xs (x ∷ []) in
      let two : m - length (xs ++ (x ∷ [])) ≡ m - suc (length xs) = omega arith in
      ap (λ (i : ℕ). set (xs ++ replicate i z) n x) one ∙ set_at xs z (replicate (m - suc (length xs)) z) x n (sym e)
      ∙ sym (ap (λ (i : ℕ). (xs ++ (x ∷ [])) ++ replicate i z) two ∙ append_assoc xs (x ∷ []) (replicate (m - suc (length xs)) z))

  none : (m : ℕ) → replicate m z ≡ padded m z []
  unfolding padded
  none m = ap (λ (i : ℕ). replicate i z) (let c : m ≡ m - 0 = omega arith in c)

  -- zeros that are written already
  pad_more : (m j : ℕ) (xs : List A) → length xs + j ≤ m → padded m z xs ≡ padded m z (xs ++ replicate j z)
  unfolding padded
  pad_more m j xs h =
      let r = length-replicate j z in
      let l = length-append xs (replicate j z) in
      let e : m - length xs ≡ j + (m - length (xs ++ replicate j z)) = omega arith in
      ap (λ (i : ℕ). xs ++ replicate i z) e
      ∙ ap (λ (ys : List A). xs ++ ys) (sym (replicate-append-replicate j (m - length (xs ++ replicate j z)) z))
      ∙ sym (append_assoc xs (replicate j z) (replicate (m - length (xs ++ replicate j z)) z))

jobs-words-append : (a b : List Job) → jobs_words (a ++ b) ≡ jobs_words a ++ jobs_words b
unfolding jobs_words
jobs-words-append [] b = refl
jobs-words-append (j ∷ a) b = ap (λ (l : List ℕ). job_words j ++ l) (jobs-words-append a b) ∙ sym (append_assoc (job_words j) (jobs_words a) (jobs_words b))

jobs-floats-append : (a b : List Job) → jobs_floats (a ++ b) ≡ jobs_floats a ++ jobs_floats b
unfolding jobs_floats
jobs-floats-append [] b = refl
jobs-floats-append (j ∷ a) b = ap (λ (l : List Float). j.distance ∷ l) (jobs-floats-append a b)

module _ (d : Between) (jobs : List ℕ) where
  fresh-words : (i : ℕ) → job_words (job_of d jobs i) ≡ job_u jobs i ∷ job_v jobs i ∷ replicate 13 0
  unfolding job_words job_of padded steps_of taken_of longer_of
  fresh-words i = refl

  words-next : (i : ℕ) → jobs_words (first_jobs d jobs (suc i)) ≡ jobs_words (first_jobs d jobs i) ++ (job_u jobs i ∷ job_v jobs i ∷ replicate 13 0)
  unfolding each jobs_words
  words-next i =
      jobs-words-append (first_jobs d jobs i) (job_of d jobs i ∷ [])
      ∙ ap (λ (l : List ℕ). jobs_words (first_jobs d jobs i) ++ l) (append-nil (job_words (job_of d jobs i)) ∙ fresh-words i)

  floats-next : (i : ℕ) → jobs_floats (first_jobs d jobs (suc i)) ≡ jobs_floats (first_jobs d jobs i) ++ (cond (eqb (job_u jobs i) (job_v jobs i)) zero32 (d (job_u jobs i) (job_v jobs i)) ∷ [])
  unfolding each jobs_floats job_of
  floats-next i = jobs-floats-append (first_jobs d jobs i) (job_of d jobs i ∷ [])

  pub jobs_start : (us : List ℕ) (fs : List Float) (m p : ℕ) → m ≡ 1024 → p ≡ 64 → us ≡ replicate m 0 → fs ≡ replicate p zero32 → JobsWritten d jobs 0 (set us 0 (job_count jobs)) fs
  unfolding each jobs_words jobs_floats
  jobs_start us fs m p a b e f =
      record {
        words = ap (λ (l : List ℕ). set l 0 (job_count jobs)) (e ∙ ap (λ (i : ℕ). replicate i 0) a ∙ none 0 1024) ∙ set_pad 0 1024 [] (job_count jobs) 0 refl (omega arith);
        floats = f ∙ ap (λ (i : ℕ). replicate i zero32) b ∙ none zero32 64;
      }

  pub jobs_turn : {i : ℕ} {us : List ℕ} {fs : List Float} → JobsWritten d jobs i us fs → i < 64
      → JobsWritten d jobs (i + 1) (set (set us (1 + 15 * i) (job_u jobs i)) (1 + 15 * i + 1) (job_v jobs i)) (set fs i (cond (eqb (job_u jobs i) (job_v jobs i)) zero32 (d (job_u jobs i) (job_v jobs i))))
  jobs_turn {i} {us} {fs} inv h =
      let u = job_u jobs i in
      let v = job_v jobs i in
      let W = jobs_words (first_jobs d jobs i) in
      let X : List ℕ = job_count jobs ∷ W in
      let o = length-ones (job_of d jobs) i in
      let w : length W ≡ i * 15 = length-jobs_words (first_jobs d jobs i) ∙ ap (λ (m : ℕ). m * 15) o in
      let x : length X ≡ 1 + 15 * i = omega arith in
      let l1 = length-append X (u ∷ []) in
      let l2 = length-append (X ++ (u ∷ [])) (v ∷ []) in
      let f : length (jobs_floats (first_jobs d jobs i)) ≡ i = length-jobs_floats (first_jobs d jobs i) ∙ o in
      record {
        words =
            ap (λ (l : List ℕ). set (set l (1 + 15 * i) u) (1 + 15 * i + 1) v) inv.words
            ∙ ap (λ (l : List ℕ). set l (1 + 15 * i + 1) v) (set_pad 0 1024 X u (1 + 15 * i) (sym x) (omega arith))
            ∙ set_pad 0 1024 (X ++ (u ∷ [])) v (1 + 15 * i + 1) (omega arith) (omega arith)
            ∙ pad_more 0 1024 13 ((X ++ (u ∷ [])) ++ (v ∷ [])) (omega arith)
            ∙ ap (padded 1024 0)
            (append_assoc (X ++ (u ∷ [])) (v ∷ []) (replicate 13 0) ∙ append_assoc X (u ∷ []) (v ∷ replicate 13 0)
            ∙ ap (λ (l : List ℕ). job_count jobs ∷ l) (sym (words-next i)))
            ∙ ap (λ (m : ℕ). padded 1024 0 (job_count jobs ∷ jobs_words (first_jobs d jobs m))) (sym (add-one i));
        floats =
            ap (λ (l : List Float). set l i (cond (eqb u v) zero32 (d u v))) inv.floats
            ∙ set_pad zero32 64 (jobs_floats (first_jobs d jobs i)) (cond (eqb u v) zero32 (d u v)) i (sym f) (omega arith)
            ∙ ap (padded 64 zero32) (sym (floats-next i))
            ∙ ap (λ (m : ℕ). padded 64 zero32 (jobs_floats (first_jobs d jobs m))) (sym (add-one i));
      }
