-- The tests of the parts come to row 12 of a move and a close. Assumes nothing.
use mathlib.Core.Path.{◌≡◌, refl, sym, ap, ◌∙◌}
use mathlib.Core.Bool.{true, false, not, ◌&&◌}
use mathlib.Core.List.{List, [], ◌∷◌, ◌++◌, map}
use Prim.Native.Nat.{ℕ, suc, ◌+◌, ◌-◌, ◌*◌, ◌<◌}
use native.Mathlib.Omega.{arith}
use borrow.Author.Tests.{eq-eqb, le-leb, not-true}
use lib.ListN.{length, take, drop, get_or, replicate, length-take, length-drop}
use native.Mathlib.Nat.{mul_comm}
use lib.Seq.{drop_at, drop-drop, get_or-drop, take_at}
use lib.Ieee.{Float, binary32, to_bits}
use Rattle.rules.specs.declared.Neighbor.{Neighbor}
use Rattle.rules.specs.Loops.{part}
use Rattle.rules.specs.Distance.{zero32}
use Rattle.rules.specs.Numbers.{outside}
use Rattle.rules.specs.Lists.{nodes_of, distances_of}
use Rattle.rules.specs.Offers.{list_formed}
use Rattle.rules.specs.Relay.{Job, Relay, no_job}
use Rattle.rules.specs.Places.{padded}
use Rattle.rules.specs.RelayPlaces.{job_words, jobs_words, jobs_floats, job_formed, jobs_formed, pending_at, relay_in, relay_state, relay_state_floats, relay_formed}
use Rattle.rules.proofs.Tests.{both, together}
use Rattle.lists.proofs.Plain.{all-at, length-nodes, length-distances}
use Rattle.encoded.specs.Words.{Binary32, joined, Fitting}
use Rattle.encoded.proofs.Same.{same-words, words_same, same-floats, floats_same}
use Rattle.encoded.proofs.Jobs.{length-job_words, length-jobs_words, length-jobs_floats}
use Rattle.encoded.proofs.Back.{words-at, floats_at_lem, length_in, count_at, jobs_in, job-words-at, distances_in}
use Rattle.zeros.specs.Zeros.{zeros, all_below}
use Rattle.zeros.proofs.Laws as all
use Rattle.jobs.specs.Jobs.{job_test}
use Rattle.relay_kept.proofs.Lists.{formed-lists, lists-formed}
use Rattle.relay_kept.proofs.Tested.{formed-lengths, lengths-formed}
use Rattle.relay_kept.proofs.Jobs.{jobs-formed}
use Rattle.relay_state.specs.State.{Sized, jobs_test, room_test, room_at}
use Rattle.relay_state.proofs.Zeroed.{are_zeros, are_floats}
use Rattle.relay_state.proofs.Parts.{sizes, from-jobs, inside}
use Rattle.relay_state.proofs.Reading.{list_of, job_of, jobs_long, lists-long, jobs-long, list_at_lem, job-at, short, fitting, binary}

-- ---- what row 12 is of all, of each

each-jobs : (n : ℕ) (js : List Job) → ((i : ℕ) → i < length js → job_formed n (get_or js i no_job) ≡ true) → jobs_formed n js ≡ true
unfolding jobs_formed
each-jobs n [] f = refl
each-jobs n (j ∷ js) f = together _ _ (f 0 (omega arith)) (each-jobs n js (λ (i : ℕ) (h : i < length js). f (suc i) (omega arith)))

-- ---- row 12 as facts

pub record Facts (n k : ℕ) (us : List ℕ) (fs : List Float) : Type 0 where
  pub words : us ≡ relay_state k (relay_in n k us fs)
  pub floats : fs ≡ relay_state_floats k (relay_in n k us fs)
  pub lists : (w : ℕ) → w < n → list_formed n (list_of n k us fs w) ≡ true
  pub lengths : (w : ℕ) → w < n → length (list_of n k us fs w) ≡ k + pending_at w (relay_in n k us fs).jobs
  pub count : outside 1 64 (jobs_long n k us fs) ≡ false
  pub jobs : (i : ℕ) → i < jobs_long n k us fs → job_formed n (job_of n k us fs i) ≡ true

module _ (n k : ℕ) (us : List ℕ) (fs : List Float) (B : Binary32 fs) where
  abbrev r : Relay
  r = relay_in n k us fs

  pub facts : relay_formed n k us fs ≡ true → Facts n k us fs
  unfolding relay_formed
  facts h =
      let p1 = both _ _ h in
      let p2 = both _ _ p1.1 in
      let p3 = both _ _ p2.1 in
      let p4 = both _ _ p3.1 in
      let p5 = both _ _ p4.1 in
      let ll = lists-long n k us fs in
      let jl = jobs-long n k us fs in
      record {
        words = words_same us (relay_state k r) p1.0;
        floats = floats_same fs (relay_state_floats k r) B (binary n k us fs B) p2.0;
        lists = λ (w : ℕ) (l : w < n). sym (ap (list_formed n) (list_at_lem n k us fs w l)) ∙ lists-formed n r.lists w p3.0 (omega arith);
        lengths = λ (w : ℕ) (l : w < n). sym (ap length (list_at_lem n k us fs w l)) ∙ lengths-formed k r.jobs 0 r.lists w p4.0 (omega arith) ∙ ap (λ (v : ℕ). k + pending_at v r.jobs) (let e : 0 + w ≡ w = omega arith in e);
        count = sym (ap (outside 1 64) jl) ∙ not-true _ p5.0;
        jobs = λ (i : ℕ) (l : i < jobs_long n k us fs). sym (ap (job_formed n) (job-at n k us fs i l)) ∙ all-at (λ (j : Job). job_formed n j ≡ true) r.jobs i no_job (jobs-formed n r.jobs p5.1) (omega arith);
      }

  pub formed : Facts n k us fs → relay_formed n k us fs ≡ true
  unfolding relay_formed
  formed f =
      let ll = lists-long n k us fs in
      let jl = jobs-long n k us fs in
      together _ _ (same-words us (relay_state k r) f.words)
      (together _ _ (same-floats fs (relay_state_floats k r) f.floats)
      (together _ _ (formed-lists n r.lists (λ (w : ℕ) l. ap (list_formed n) (list_at_lem n k us fs w (omega arith)) ∙ f.lists w (omega arith)))
      (together _ _
      (formed-lengths k r.jobs 0 r.lists (λ (w : ℕ) l.
      let e : 0 + w ≡ w = omega arith in
      rw e (ap length (list_at_lem n k us fs w (omega arith)) ∙ f.lengths w (omega arith))))
      (together _ _ (ap not (ap (outside 1 64) jl ∙ f.count))
      (each-jobs n r.jobs (λ (i : ℕ) l. ap (job_formed n) (job-at n k us fs i (omega arith)) ∙ f.jobs i (omega arith)))))))

-- ---- facts give the tests

module _ {n k : ℕ} {us : List ℕ} {fs : List Float} (z : Sized n k us fs) (f : Facts n k us fs) where
  abbrev F : Fitting n k (relay_in n k us fs)
  F = fitting n k us fs

  abbrev l : ℕ → List Neighbor
  l w = list_of n k us fs w

  abbrev R : ℕ
  R = k + 64

  pub len_is : (w : ℕ) → w < n → get_or us (n * (k + 64) + w) 0 ≡ length (l w)
  len_is w h =
      ap (λ (xs : List ℕ). get_or xs (n * (k + 64) + w) 0) f.words ∙ length_in n k (relay_in n k us fs) F w h ∙ ap length (list_at_lem n k us fs w h)

  pub words_are : (w : ℕ) → w < n → part (k + 64) w us ≡ padded (k + 64) 0 (nodes_of (l w))
  words_are w h =
      ap (part (k + 64) w) f.words ∙ words-at n k (relay_in n k us fs) F w h ∙ ap (λ (x : List Neighbor). padded (k + 64) 0 (nodes_of x)) (list_at_lem n k us fs w h)

  pub floats_as : (w : ℕ) → w < n → part (k + 64) w fs ≡ padded (k + 64) zero32 (distances_of (l w))
  floats_as w h =
      ap (part (k + 64) w) f.floats ∙ floats_at_lem n k (relay_in n k us fs) F w h ∙ ap (λ (x : List Neighbor). padded (k + 64) zero32 (distances_of x)) (list_at_lem n k us fs w h)

  room-holds : (w : ℕ) → w < n → room_at n k us fs w ≡ true
  unfolding room_at room_test padded part
  room-holds w h =
      let len = get_or us (n * (k + 64) + w) 0 in
      let a = len_is w h in
      let b = f.lengths w h in
      let i = inside w z h in
      let s = i.sizes in
      let all_words = s.all_words in
      let long : length (take (k + 64) (drop (w * (k + 64)) us)) ≡ k + 64 = simp (length-take, length-drop) (omega arith) in
      let few = short n k us fs w in
      together _ _ (eq-eqb len (k + pending_at w (relay_in n k us fs).jobs) (a ∙ b))
      (together _ _ (le-leb len (length (take (k + 64) (drop (w * (k + 64)) us))) (omega arith))
      (together _ _
      (ap (λ (xs : List ℕ). zeros (drop len xs)) (words_are w h)
      ∙ ap zeros (drop_at (nodes_of (l w)) (replicate (k + 64 - length (nodes_of (l w))) 0) len (length-nodes (l w) ∙ sym a))
      ∙ are_zeros (k + 64 - length (nodes_of (l w))))
      (together _ _
      (ap (λ (xs : List Float). zeros (map (to_bits binary32) (drop len xs))) (floats_as w h)
      ∙ ap (λ (xs : List Float). zeros (map (to_bits binary32) xs))
      (drop_at (distances_of (l w)) (replicate (k + 64 - length (distances_of (l w))) zero32) len (length-distances (l w) ∙ sym a))
      ∙ are_floats (k + 64 - length (distances_of (l w))))
      (f.lists w h))))

  -- the number of jobs, as it stands
  pub count-is : get_or us (n * (k + 65)) 0 ≡ jobs_long n k us fs
  count-is = ap (λ (xs : List ℕ). get_or xs (n * (k + 65)) 0) f.words ∙ count_at n k (relay_in n k us fs) F ∙ jobs-long n k us fs

  abbrev m : ℕ
  m = jobs_long n k us fs

  job-holds : (i : ℕ) → i < m → job_test n (drop (n * (k + 65) + 1 + 15 * i) us) (get_or fs (n * (k + 64) + i) zero32) ≡ true
  unfolding job_test
  job-holds i h =
      let jl = jobs-long n k us fs in
      let ws = drop (n * (k + 65) + 1 + 15 * i) us in
      let rest = joined (drop (suc i) (map job_words (relay_in n k us fs).jobs)) ++ replicate (1024 - suc (length (jobs_words (relay_in n k us fs).jobs))) 0 in
      let e : ws ≡ job_words (job_of n k us fs i) ++ rest =
      ap (drop (n * (k + 65) + 1 + 15 * i)) f.words ∙ job-words-at n k (relay_in n k us fs) F i (omega arith)
      ∙ ap (λ (j : Job). job_words j ++ rest) (job-at n k us fs i h) in
      together _ _
      (same-words (take 15 ws) (job_words (job_of n k us fs i)) (ap (take 15) e ∙ take_at (job_words (job_of n k us fs i)) rest 15 (length-job_words (job_of n k us fs i))))
      (f.jobs i h)

  words-behind : zeros (drop (n * (k + 65) + 1 + 15 * m) us) ≡ true
  words-behind =
      let js = (relay_in n k us fs).jobs in
      let rest : List ℕ = replicate (1024 - suc (length (jobs_words js))) 0 in
      let e : drop (n * (k + 65) + 1) us ≡ jobs_words js ++ rest = ap (drop (n * (k + 65) + 1)) f.words ∙ jobs_in n k (relay_in n k us fs) F in
      let a = length-jobs_words js in
      let b = jobs-long n k us fs in
      let c : length (jobs_words js) ≡ 15 * m = a ∙ ap (λ (i : ℕ). i * 15) b ∙ mul_comm m 15 in
      ap zeros (sym (drop-drop (15 * m) (n * (k + 65) + 1) us) ∙ ap (drop (15 * m)) e ∙ drop_at (jobs_words js) rest (15 * m) c)
      ∙ are_zeros (1024 - suc (length (jobs_words js)))

  floats-behind : zeros (map (to_bits binary32) (drop m (drop (n * (k + 64)) fs))) ≡ true
  floats-behind =
      let js = (relay_in n k us fs).jobs in
      let rest = replicate (64 - length (jobs_floats js)) zero32 in
      let e : drop (n * (k + 64)) fs ≡ jobs_floats js ++ rest = ap (drop (n * (k + 64))) f.floats ∙ distances_in n k (relay_in n k us fs) F in
      ap (λ (xs : List Float). zeros (map (to_bits binary32) xs))
      (ap (drop m) e ∙ drop_at (jobs_floats js) rest m (length-jobs_floats js ∙ jobs-long n k us fs))
      ∙ are_floats (64 - length (jobs_floats js))

  jobs_hold : jobs_test n (drop (n * (k + 64) + n) us) (drop (n * (k + 64)) fs) ≡ true
  unfolding jobs_test
  jobs_hold =
      let s = sizes z in
      let j = s.jobs in
      let at : n * (k + 64) + n + 0 ≡ n * (k + 65) = omega arith in
      let c : get_or (drop (n * (k + 64) + n) us) 0 0 ≡ m = get_or-drop (n * (k + 64) + n) us 0 0 ∙ ap (λ (i : ℕ). get_or us i 0) at ∙ count-is in
      rw c
      (together _ _ (ap not f.count)
      (together _ _
      (all.all_of (λ (i : ℕ). job_test n (drop (1 + 15 * i) (drop (n * (k + 64) + n) us)) (get_or (drop (n * (k + 64)) fs) i zero32)) m
      (λ (i : ℕ) (h : i < m).
      ap (λ (ws : List ℕ). job_test n ws (get_or (drop (n * (k + 64)) fs) i zero32)) (sym (from-jobs s us i))
      ∙ ap (job_test n (drop (n * (k + 65) + 1 + 15 * i) us)) (get_or-drop (n * (k + 64)) fs i zero32) ∙ job-holds i h))
      (together _ _ (ap zeros (sym (from-jobs s us m)) ∙ words-behind) floats-behind)))

  pub tests_hold : (jobs_test n (drop (n * (k + 64) + n) us) (drop (n * (k + 64)) fs) && all_below (room_at n k us fs) n) ≡ true
  tests_hold = together _ _ jobs_hold (all.all_of (room_at n k us fs) n room-holds)
