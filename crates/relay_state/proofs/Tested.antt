-- What the tests of the parts say of a state is what row 12 says. Assumes nothing.
use mathlib.Core.Path.{◌≡◌, sym, ap, ◌∙◌}
use mathlib.Core.Bool.{Bool, true, false, not, ◌&&◌}
use mathlib.Core.List.{List, ◌∷◌, ◌++◌, map}
use Prim.Native.Nat.{ℕ, suc, ◌+◌, ◌-◌, ◌*◌, ◌≤◌, ◌<◌}
use native.Mathlib.Nat.{mul_comm}
use native.Mathlib.Omega.{arith}
use borrow.Author.Tests.{eqb-true, leb-true, not-true}
use lib.Dec.{T, eqb, leb}
use lib.ListN.{length, take, drop, get_or, replicate, length-drop, take-append-drop}
use lib.Seq.{drop-drop, drop-cons, get_or-drop, get_or-take, length-take-le, ext_get_or}
use lib.Ieee.{Float, binary32, to_bits, fits}
use Rattle.rules.specs.declared.Neighbor.{Neighbor}
use Rattle.rules.specs.Loops.{part}
use Rattle.rules.specs.Distance.{zero32}
use Rattle.rules.specs.Numbers.{outside}
use Rattle.rules.specs.Lists.{entries, nodes_of, distances_of}
use Rattle.rules.specs.Offers.{list_formed}
use Rattle.rules.specs.Relay.{Job, no_job}
use Rattle.rules.specs.Places.{padded, same_words}
use Rattle.rules.specs.RelayPlaces.{room_words, room_floats, lengths_of, job_words, jobs_words, jobs_floats, job_in, job_formed, pending_at, relay_in, relay_state, relay_state_floats, relay_formed}
use Rattle.rules.proofs.Tables.{within}
use Rattle.rules.proofs.Tests.{both, same_truth}
use Rattle.rules.proofs.Loops.{ones}
use Rattle.rules.proofs.Places.{part-long}
use Rattle.lists.proofs.Plain.{all_take, length-nodes, length-distances, to_end}
use Rattle.lists.proofs.Slices.{length-entries, nodes_of-entries, distances_of-entries}
use Rattle.encoded.specs.Words.{Binary32}
use Rattle.encoded.proofs.Same.{words_same}
use Rattle.encoded.proofs.Rows.{get_d_mapped, all_drop}
use Rattle.encoded.proofs.Lists.{room-words, room_floats_lem, word_row, float_row, length-lengths, length_at}
use Rattle.encoded.proofs.Jobs.{jobs-words, jobs-floats, length-jobs_words, length-jobs_floats}
use Rattle.zeros.specs.Zeros.{zeros, all_below}
use Rattle.zeros.proofs.Laws as all
use Rattle.jobs.specs.Jobs.{job_test}
use Rattle.relay_state.specs.State.{Sized, jobs_test, room_test, room_at}
use Rattle.relay_state.proofs.Zeroed.{zeros_are, floats_are}
use Rattle.relay_state.proofs.Parts.{sizes, from-jobs, inside}
use Rattle.relay_state.proofs.Reading.{joined-ones, parts_front, list_of, job_of, jobs_long, lists-long, jobs-long, list_at_lem, job-at}
use Rattle.relay_state.proofs.Whole.{Facts, facts, formed, tests_hold}

-- ---- one room

record Room (n want len : ℕ) (ns : List ℕ) (ds : List Float) : Type 0 where
  pub long : length (entries len ns ds) ≡ len
  pub wanted : len ≡ want
  pub nodes : ns ≡ padded (length ns) 0 (nodes_of (entries len ns ds))
  pub dists : ds ≡ padded (length ns) zero32 (distances_of (entries len ns ds))
  pub list : list_formed n (entries len ns ds) ≡ true

room_of : (n want len : ℕ) (ns : List ℕ) (ds : List Float) → length ds ≡ length ns → Binary32 ds → room_test n want len ns ds ≡ true → Room n want len ns ds
unfolding room_test padded
room_of n want len ns ds e B h =
    let z1 = zeros (drop len ns) in
    let z2 = zeros (map (to_bits binary32) (drop len ds)) in
    let p1 = both (eqb len want) (leb len (length ns) && (z1 && (z2 && list_formed n (entries len ns ds)))) h in
    let p2 = both (leb len (length ns)) (z1 && (z2 && list_formed n (entries len ns ds))) p1.1 in
    let p3 = both z1 (z2 && list_formed n (entries len ns ds)) p2.1 in
    let p4 = both z2 (list_formed n (entries len ns ds)) p3.1 in
    let room : len ≤ length ns = leb-true len (length ns) p2.0 in
    let long : length (entries len ns ds) ≡ len = length-entries len ns ds room (omega arith) in
    let a : length (drop len ns) ≡ length ns - length (nodes_of (entries len ns ds)) =
    length-drop len ns ∙ ap (λ (i : ℕ). length ns - i) (sym (length-nodes (entries len ns ds) ∙ long)) in
    let b : length (drop len ds) ≡ length ns - length (distances_of (entries len ns ds)) =
    length-drop len ds ∙ ap (λ (i : ℕ). i - len) e ∙ ap (λ (i : ℕ). length ns - i) (sym (length-distances (entries len ns ds) ∙ long)) in
    record {
      long = long;
      wanted = eqb-true len want p1.0;
      nodes =
          sym (take-append-drop len ns) ∙ ap (λ (xs : List ℕ). xs ++ drop len ns) (sym (nodes_of-entries len ns ds (omega arith)))
          ∙ ap (λ (xs : List ℕ). nodes_of (entries len ns ds) ++ xs) (zeros_are (drop len ns) p3.0 ∙ ap (λ (i : ℕ). replicate i 0) a);
      dists =
          sym (take-append-drop len ds) ∙ ap (λ (xs : List Float). xs ++ drop len ds) (sym (distances_of-entries len ns ds room))
          ∙ ap (λ (xs : List Float). distances_of (entries len ns ds) ++ xs)
          (floats_are (drop len ds) (all_drop (λ (x : Float). T (fits binary32 x)) len ds B) p4.0 ∙ ap (λ (i : ℕ). replicate i zero32) b);
      list = p4.1;
    }

four : (a b c d : Bool) → (a && (b && (c && d))) ≡ true → (a ≡ true) × (b ≡ true) × (c ≡ true) × (d ≡ true)
four a b c d h =
    let p = both a (b && (c && d)) h in
    let q = both b (c && d) p.1 in
    let r = both c d q.1 in
    (p.0, q.0, r.0, r.1)

module _ {n k : ℕ} {us : List ℕ} {fs : List Float} (z : Sized n k us fs) (B : Binary32 fs) where
  abbrev l : ℕ → List Neighbor
  l w = list_of n k us fs w

  module _ (good : all_below (room_at n k us fs) n ≡ true) where
    room : (w : ℕ) → w < n → Room n (k + pending_at w (relay_in n k us fs).jobs) (get_or us (n * (k + 64) + w) 0) (part (k + 64) w us) (part (k + 64) w fs)
    unfolding room_at part
    room w h =
        let i = inside w z h in
        let s = i.sizes in
        let all_words = s.all_words in
        let all_floats = s.all_floats in
        let to = i.to in
        room_of n (k + pending_at w (relay_in n k us fs).jobs) (get_or us (n * (k + 64) + w) 0) (part (k + 64) w us) (part (k + 64) w fs)
        (part-long (k + 64) w fs (omega arith) ∙ sym (part-long (k + 64) w us (omega arith)))
        (all_take (λ (x : Float). T (fits binary32 x)) (k + 64) (drop (w * (k + 64)) fs) (all_drop (λ (x : Float). T (fits binary32 x)) (w * (k + 64)) fs B))
        (all.all-at (room_at n k us fs) n w good h)

    wide : (w : ℕ) → w < n → length (part (k + 64) w us) ≡ k + 64
    wide w h =
        let i = inside w z h in
        let s = i.sizes in
        let all_words = s.all_words in
        let to = i.to in
        part-long (k + 64) w us (omega arith)

    rooms_words : room_words (k + 64) (relay_in n k us fs).lists ≡ take (n * (k + 64)) us
    unfolding relay_in
    rooms_words =
        room-words (k + 64) (ones l n) ∙ joined-ones (word_row (k + 64)) l n
        ∙ parts_front (λ (w : ℕ). word_row (k + 64) (l w)) (k + 64) us n (λ (w : ℕ) (h : w < n). sym ((room w h).nodes ∙ ap (λ (i : ℕ). padded i 0 (nodes_of (l w))) (wide w h)))

    rooms_floats : room_floats (k + 64) (relay_in n k us fs).lists ≡ take (n * (k + 64)) fs
    unfolding relay_in
    rooms_floats =
        room_floats_lem (k + 64) (ones l n) ∙ joined-ones (float_row (k + 64)) l n
        ∙ parts_front (λ (w : ℕ). float_row (k + 64) (l w)) (k + 64) fs n (λ (w : ℕ) (h : w < n). sym ((room w h).dists ∙ ap (λ (i : ℕ). padded i zero32 (distances_of (l w))) (wide w h)))

    lengths-words : lengths_of (relay_in n k us fs).lists ≡ take n (drop (n * (k + 64)) us)
    lengths-words =
        let ls = (relay_in n k us fs).lists in
        let s = sizes z in
        let all_words = s.all_words in
        let a = lists-long n k us fs in
        let b = length-lengths ls in
        let c : length (take n (drop (n * (k + 64)) us)) ≡ n = length-take-le n (drop (n * (k + 64)) us) (simp length-drop (omega arith)) in
        ext_get_or 0 (lengths_of ls) (take n (drop (n * (k + 64)) us)) (omega arith) (λ (w : ℕ) h.
        let below : w < n = omega arith in
        length_at ls w (omega arith) ∙ ap length (list_at_lem n k us fs w below) ∙ (room w below).long
        ∙ sym (get_or-take n (drop (n * (k + 64)) us) w 0 below ∙ get_or-drop (n * (k + 64)) us w 0))

  -- ---- the jobs

  module _ (good : jobs_test n (drop (n * (k + 64) + n) us) (drop (n * (k + 64)) fs) ≡ true) where
    abbrev J : List ℕ
    J = drop (n * (k + 64) + n) us

    abbrev X : List Float
    X = drop (n * (k + 64)) fs

    abbrev count : ℕ
    count = get_or J 0 0

    abbrev m : ℕ
    m = jobs_long n k us fs

    abbrev job_ok : ℕ → Bool
    job_ok i = job_test n (drop (1 + 15 * i) J) (get_or X i zero32)

    held : (not (outside 1 64 count) ≡ true) × (all_below job_ok count ≡ true) × (zeros (drop (1 + 15 * count) J) ≡ true) × (zeros (map (to_bits binary32) (drop count X)) ≡ true)
    unfolding jobs_test
    held = four (not (outside 1 64 count)) (all_below job_ok count) (zeros (drop (1 + 15 * count) J)) (zeros (map (to_bits binary32) (drop count X))) good

    few : outside 1 64 count ≡ false
    few = not-true (outside 1 64 count) held.0

    counted : get_or us (n * (k + 65)) 0 ≡ count
    counted =
        let s = sizes z in
        let j = s.jobs in
        let at : n * (k + 64) + n + 0 ≡ n * (k + 65) = omega arith in
        sym (get_or-drop (n * (k + 64) + n) us 0 0 ∙ ap (λ (i : ℕ). get_or us i 0) at)

    all_read : m ≡ count
    all_read =
        let a = counted in
        let b = within 1 64 count few in
        omega arith

    job_good : (i : ℕ) → i < m → job_test n (drop (n * (k + 65) + 1 + 15 * i) us) (get_or fs (n * (k + 64) + i) zero32) ≡ true
    job_good i h =
        let a = all_read in
        ap (λ (ws : List ℕ). job_test n ws (get_or fs (n * (k + 64) + i) zero32)) (from-jobs (sizes z) us i)
        ∙ ap (job_test n (drop (1 + 15 * i) J)) (sym (get_or-drop (n * (k + 64)) fs i zero32))
        ∙ all.all-at job_ok count i held.1 (omega arith)

    job-words : (i : ℕ) → i < m → job_words (job_of n k us fs i) ≡ part 15 i (drop (n * (k + 65) + 1) us)
    unfolding job_test part
    job-words i h =
        let ws = drop (n * (k + 65) + 1 + 15 * i) us in
        sym (words_same (take 15 ws) (job_words (job_of n k us fs i)) (both (same_words (take 15 ws) (job_words (job_of n k us fs i))) (job_formed n (job_of n k us fs i)) (job_good i h)).0)
        ∙ ap (λ (a : ℕ). take 15 (drop (n * (k + 65) + 1 + a) us)) (mul_comm 15 i) ∙ ap (take 15) (sym (drop-drop (i * 15) (n * (k + 65) + 1) us))

    jobs-front : jobs_words (relay_in n k us fs).jobs ≡ take (m * 15) (drop (n * (k + 65) + 1) us)
    unfolding relay_in
    jobs-front =
        jobs-words (ones (job_of n k us fs) m) ∙ joined-ones job_words (job_of n k us fs) m
        ∙ parts_front (λ (i : ℕ). job_words (job_of n k us fs i)) 15 (drop (n * (k + 65) + 1) us) m job-words

    jobs-rest : drop (m * 15) (drop (n * (k + 65) + 1) us) ≡ replicate (1024 - suc (length (jobs_words (relay_in n k us fs).jobs))) 0
    jobs-rest =
        let a = all_read in
        let s = sizes z in
        let j = s.jobs in
        let all_words = s.all_words in
        let b = within 1 64 count few in
        let c = length-jobs_words (relay_in n k us fs).jobs in
        let d = jobs-long n k us fs in
        let e : length (jobs_words (relay_in n k us fs).jobs) ≡ m * 15 = c ∙ ap (λ (i : ℕ). i * 15) d in
        let behind : drop (m * 15) (drop (n * (k + 65) + 1) us) ≡ drop (1 + 15 * m) J =
        drop-drop (m * 15) (n * (k + 65) + 1) us ∙ ap (λ (i : ℕ). drop (n * (k + 65) + 1 + i) us) (mul_comm m 15) ∙ from-jobs s us m in
        let long : length (drop (1 + 15 * m) J) ≡ 1024 - suc (length (jobs_words (relay_in n k us fs).jobs)) = simp (length-drop, length-drop) (omega arith) in
        behind ∙ zeros_are (drop (1 + 15 * m) J) (ap (λ (i : ℕ). zeros (drop (1 + 15 * i) J)) a ∙ held.2) ∙ ap (λ (i : ℕ). replicate i 0) long

    jobs-words_are : drop (n * (k + 64) + n) us ≡ padded 1024 0 (length (relay_in n k us fs).jobs ∷ jobs_words (relay_in n k us fs).jobs)
    unfolding padded
    jobs-words_are =
        let s = sizes z in
        let j = s.jobs in
        let all_words = s.all_words in
        let js = (relay_in n k us fs).jobs in
        let at : n * (k + 64) + n ≡ n * (k + 65) = omega arith in
        let one : suc (n * (k + 65)) ≡ n * (k + 65) + 1 = omega arith in
        let rest = drop (n * (k + 65) + 1) us in
        ap (λ (i : ℕ). drop i us) at ∙ drop-cons us (n * (k + 65)) 0 (omega arith)
        ∙ ap (λ (i : ℕ). get_or us (n * (k + 65)) 0 ∷ drop i us) one
        ∙ ap (λ (x : ℕ). x ∷ rest) (counted ∙ sym all_read ∙ sym (jobs-long n k us fs))
        ∙ ap (λ (xs : List ℕ). length js ∷ xs)
        (sym (take-append-drop (m * 15) rest) ∙ ap (λ (xs : List ℕ). xs ++ drop (m * 15) rest) (sym jobs-front) ∙ ap (λ (xs : List ℕ). jobs_words js ++ xs) jobs-rest)

    jobs-floats_are : drop (n * (k + 64)) fs ≡ padded 64 zero32 (jobs_floats (relay_in n k us fs).jobs)
    unfolding padded job_in
    jobs-floats_are =
        let s = sizes z in
        let all_floats = s.all_floats in
        let js = (relay_in n k us fs).jobs in
        let a = all_read in
        let b = within 1 64 count few in
        let c = length-jobs_floats js in
        let d = jobs-long n k us fs in
        let long : length X ≡ 64 = simp length-drop (omega arith) in
        let front : jobs_floats js ≡ take m X =
        jobs-floats js
        ∙ ext_get_or zero32 (map (λ (j : Job). j.distance) js) (take m X)
        (sym (ap length (jobs-floats js)) ∙ c ∙ d ∙ sym (length-take-le m X (omega arith))) (λ (i : ℕ) h.
        let i_below : i < m = (let g : length (map (λ (j : Job). j.distance) js) ≡ m = sym (ap length (jobs-floats js)) ∙ c ∙ d in omega arith) in
        get_d_mapped (λ (j : Job). j.distance) js i zero32 no_job (omega arith)
        ∙ ap (λ (j : Job). j.distance) (job-at n k us fs i i_below)
        ∙ sym (get_or-take m X i zero32 i_below ∙ get_or-drop (n * (k + 64)) fs i zero32)) in
        let left : length (drop m X) ≡ 64 - length (jobs_floats js) = simp length-drop (omega arith) in
        let rest : drop m X ≡ replicate (64 - length (jobs_floats js)) zero32 =
        floats_are (drop m X) (all_drop (λ (x : Float). T (fits binary32 x)) m X (all_drop (λ (x : Float). T (fits binary32 x)) (n * (k + 64)) fs B))
        (ap (λ (i : ℕ). zeros (map (to_bits binary32) (drop i X))) a ∙ held.3)
        ∙ ap (λ (i : ℕ). replicate i zero32) left in
        sym (take-append-drop m X) ∙ ap (λ (xs : List Float). xs ++ drop m X) (sym front) ∙ ap (λ (xs : List Float). jobs_floats js ++ xs) rest

    -- ---- the whole

    facts_of : all_below (room_at n k us fs) n ≡ true → Facts n k us fs
    unfolding relay_state relay_state_floats job_test
    facts_of rooms =
        let n_r = n * (k + 64) in
        record {
          words =
              sym (take-append-drop n_r us) ∙ ap (λ (xs : List ℕ). xs ++ drop n_r us) (sym (rooms_words rooms))
              ∙ ap (λ (xs : List ℕ). room_words (k + 64) (relay_in n k us fs).lists ++ xs)
              (sym (take-append-drop n (drop n_r us)) ∙ ap (λ (xs : List ℕ). xs ++ drop n (drop n_r us)) (sym (lengths-words rooms))
              ∙ ap (λ (xs : List ℕ). lengths_of (relay_in n k us fs).lists ++ xs) (drop-drop n n_r us ∙ jobs-words_are));
          floats =
              sym (take-append-drop n_r fs) ∙ ap (λ (xs : List Float). xs ++ drop n_r fs) (sym (rooms_floats rooms))
              ∙ ap (λ (xs : List Float). room_floats (k + 64) (relay_in n k us fs).lists ++ xs) jobs-floats_are;
          lists = λ (w : ℕ) (h : w < n). (room rooms w h).list;
          lengths = λ (w : ℕ) (h : w < n). (room rooms w h).long ∙ (room rooms w h).wanted;
          count = ap (outside 1 64) all_read ∙ few;
          jobs = λ (i : ℕ) (h : i < m).
              (both (same_words (take 15 (drop (n * (k + 65) + 1 + 15 * i) us)) (job_words (job_of n k us fs i))) (job_formed n (job_of n k us fs i)) (job_good i h)).1;
        }

  -- the tests come to row 12
  pub tested : (jobs_test n (drop (n * (k + 64) + n) us) (drop (n * (k + 64)) fs) && all_below (room_at n k us fs) n) ≡ relay_formed n k us fs
  tested =
      same_truth (jobs_test n (drop (n * (k + 64) + n) us) (drop (n * (k + 64)) fs) && all_below (room_at n k us fs) n) (relay_formed n k us fs)
      (λ h.
      let p = both (jobs_test n (drop (n * (k + 64) + n) us) (drop (n * (k + 64)) fs)) (all_below (room_at n k us fs) n) h in
      formed n k us fs B (facts_of p.0 p.1)) (λ h. tests_hold z (facts n k us fs B h))

  -- with the jobs as they are lent
  abbrev lent_test : Bool
  lent_test = jobs_test n (take (length us - (n * (k + 64) + n)) (drop (n * (k + 64) + n) us)) (take (length fs - n * (k + 64)) (drop (n * (k + 64)) fs))

  lent : lent_test ≡ jobs_test n (drop (n * (k + 64) + n) us) (drop (n * (k + 64)) fs)
  lent = rw (to_end (n * (k + 64) + n) us, to_end (n * (k + 64)) fs)

  pub by_jobs : lent_test ≡ false → false ≡ relay_formed n k us fs
  by_jobs h = sym (sym tested ∙ rw (sym lent ∙ h))

  module _ (h : lent_test ≡ true) where
    pub few-jobs : get_or us (n * (k + 64) + n) 0 ≤ 64
    few-jobs =
        let good : jobs_test n (drop (n * (k + 64) + n) us) (drop (n * (k + 64)) fs) ≡ true = sym lent ∙ h in
        let b = within 1 64 (count good) (few good) in
        let at : n * (k + 64) + n + 0 ≡ n * (k + 64) + n = omega arith in
        let e : count good ≡ get_or us (n * (k + 64) + n) 0 = get_or-drop (n * (k + 64) + n) us 0 0 ∙ ap (λ (i : ℕ). get_or us i 0) at in
        omega arith

    pub by_rooms : all_below (room_at n k us fs) n ≡ relay_formed n k us fs
    by_rooms = sym (rw (sym lent ∙ h)) ∙ tested
