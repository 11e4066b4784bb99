-- The encoding of a relay has the lengths that row 6 asks for, and is read back as that relay. Assumes nothing.
use mathlib.Core.Path.{◌≡◌, refl, sym, ap, ◌∙◌}
use mathlib.Core.List.{List, [], ◌∷◌, ◌++◌, map}
use Prim.Native.Nat.{ℕ, suc, ◌+◌, ◌-◌, ◌*◌, ◌≤◌, ◌<◌, min}
use native.Mathlib.Nat.{mul-suc, mul_comm}
use native.Mathlib.Omega.{arith}
use lib.ListN.{length, drop, get_or, replicate, length-append, get_or-append}
use lib.Seq.{drop_at, drop-drop, get_or-drop}
use lib.Ieee.{Float}
use Rattle.rules.specs.Loops.{each, part}
use Rattle.rules.specs.Distance.{zero32}
use Rattle.rules.specs.Numbers.{most}
use Rattle.rules.specs.Lists.{entries}
use Rattle.rules.specs.Calls.{relay_words, relay_floats}
use Rattle.rules.specs.Relay.{Job, Relay, no_job}
use Rattle.rules.specs.Places.{padded}
use Rattle.rules.specs.RelayPlaces.{room_words, room_floats, lengths_of, job_words, jobs_words, jobs_floats, relay_state, relay_state_floats, job_in, relay_in}
use Rattle.rules.proofs.Places.{length-padded}
use Rattle.lists.proofs.Plain.{all-at}
use Rattle.encoded.specs.Words.{joined, Readable, Fitting}
use Rattle.encoded.proofs.Rows.{drop_more, get_d_head, each_back, get_d_mapped}
use Rattle.encoded.proofs.Lists.{word_row, float_row, entries-padded, length-room-words, length-room-floats, part-words, part-floats, length-lengths, length_at}
use Rattle.encoded.proofs.Jobs.{job-back, length-jobs_words, length-jobs_floats, jobs-floats, drop-jobs}

module _ (n k : ℕ) (r : Relay) (F : Fitting n k r) where
  -- ---- lengths

  jobs-fit : length (length r.jobs ∷ jobs_words r.jobs) ≤ 1024
  jobs-fit =
      let a = length-jobs_words r.jobs in
      let b = F.few in
      omega arith

  pub state-long : length (relay_state k r) ≡ relay_words n k
  unfolding relay_state
  state-long =
      let a = length-room-words (k + 64) r.lists F.short in
      let b = length-lengths r.lists in
      let c = length-padded 1024 0 (length r.jobs ∷ jobs_words r.jobs) jobs-fit in
      let e = F.nodes in
      let e' = ap (λ (m : ℕ). m * (k + 64)) e in
      let f : n * (k + 65) ≡ n * (k + 64) + n = ap (λ (m : ℕ). n * m) (let g : k + 65 ≡ suc (k + 64) = omega arith in g) ∙ mul-suc n (k + 64) in
      length-append (room_words (k + 64) r.lists) (lengths_of r.lists ++ padded 1024 0 (length r.jobs ∷ jobs_words r.jobs))
      ∙ ap (λ (m : ℕ). length (room_words (k + 64) r.lists) + m) (length-append (lengths_of r.lists) (padded 1024 0 (length r.jobs ∷ jobs_words r.jobs)))
      ∙ omega arith

  pub floats_long : length (relay_state_floats k r) ≡ relay_floats n k
  unfolding relay_state_floats
  floats_long =
      let a = length-room-floats (k + 64) r.lists F.short in
      let b = length-jobs_floats r.jobs in
      let c = length-padded 64 zero32 (jobs_floats r.jobs) (let d = F.few in omega arith) in
      let e = ap (λ (m : ℕ). m * (k + 64)) F.nodes in
      length-append (room_floats (k + 64) r.lists) (padded 64 zero32 (jobs_floats r.jobs)) ∙ omega arith

  -- ---- what stands where

  -- the zeros behind the last job, and behind the last distance
  abbrev pub rest : List ℕ
  rest = replicate (1024 - suc (length (jobs_words r.jobs))) 0

  abbrev pub zeros : List Float
  zeros = replicate (64 - length (jobs_floats r.jobs)) zero32

  pub lengths_in : drop (n * (k + 64)) (relay_state k r) ≡ lengths_of r.lists ++ (length r.jobs ∷ (jobs_words r.jobs ++ rest))
  unfolding relay_state padded
  lengths_in =
      drop_at (room_words (k + 64) r.lists) (lengths_of r.lists ++ (length r.jobs ∷ (jobs_words r.jobs ++ rest))) (n * (k + 64))
      (length-room-words (k + 64) r.lists F.short ∙ ap (λ (m : ℕ). m * (k + 64)) F.nodes)

  pub count_in : drop (n * (k + 65)) (relay_state k r) ≡ length r.jobs ∷ (jobs_words r.jobs ++ rest)
  count_in =
      drop_more (relay_state k r) (lengths_of r.lists) (length r.jobs ∷ (jobs_words r.jobs ++ rest)) (n * (k + 64)) (n * (k + 65)) n lengths_in
      (length-lengths r.lists ∙ F.nodes)
      (ap (λ (m : ℕ). n * m) (let g : k + 65 ≡ suc (k + 64) = omega arith in g) ∙ mul-suc n (k + 64))

  pub jobs_in : drop (n * (k + 65) + 1) (relay_state k r) ≡ jobs_words r.jobs ++ rest
  jobs_in =
      drop_more (relay_state k r) (length r.jobs ∷ []) (jobs_words r.jobs ++ rest) (n * (k + 65)) (n * (k + 65) + 1) 1 count_in refl refl

  pub distances_in : drop (n * (k + 64)) (relay_state_floats k r) ≡ jobs_floats r.jobs ++ zeros
  unfolding relay_state_floats padded
  distances_in =
      drop_at (room_floats (k + 64) r.lists) (jobs_floats r.jobs ++ zeros) (n * (k + 64))
      (length-room-floats (k + 64) r.lists F.short ∙ ap (λ (m : ℕ). m * (k + 64)) F.nodes)

  -- ---- node w's places, and its length

  module _ (w : ℕ) (h : w < n) where
    inside : w < length r.lists
    inside = let e = F.nodes in omega arith

    pub words-at : part (k + 64) w (relay_state k r) ≡ word_row (k + 64) (get_or r.lists w [])
    unfolding relay_state
    words-at =
        part-words (k + 64) r.lists F.short w inside (lengths_of r.lists ++ padded 1024 0 (length r.jobs ∷ jobs_words r.jobs))

    pub floats_at_lem : part (k + 64) w (relay_state_floats k r) ≡ float_row (k + 64) (get_or r.lists w [])
    unfolding relay_state_floats
    floats_at_lem = part-floats (k + 64) r.lists F.short w inside (padded 64 zero32 (jobs_floats r.jobs))

    pub length_in : get_or (relay_state k r) (n * (k + 64) + w) 0 ≡ length (get_or r.lists w [])
    length_in =
        sym (get_or-drop (n * (k + 64)) (relay_state k r) w 0)
        ∙ ap (λ (l : List ℕ). get_or l w 0) lengths_in
        ∙ get_or-append (lengths_of r.lists) (length r.jobs ∷ (jobs_words r.jobs ++ rest)) 0 w (let e = length-lengths r.lists in let i = inside in omega arith)
        ∙ length_at r.lists w inside

    pub list_at_lem : entries (get_or (relay_state k r) (n * (k + 64) + w) 0) (part (k + 64) w (relay_state k r)) (part (k + 64) w (relay_state_floats k r)) ≡ get_or r.lists w []
    list_at_lem = rw (length_in, words-at, floats_at_lem) (entries-padded (k + 64) (get_or r.lists w []))

  -- ---- the number of jobs, and job i

  pub count_at : get_or (relay_state k r) (n * (k + 65)) 0 ≡ length r.jobs
  count_at = get_d_head (relay_state k r) (jobs_words r.jobs ++ rest) (length r.jobs) 0 (n * (k + 65)) count_in

  module _ (i : ℕ) (h : i < length r.jobs) where
    pub job-words-at : drop (n * (k + 65) + 1 + 15 * i) (relay_state k r) ≡ job_words (get_or r.jobs i no_job) ++ (joined (drop (suc i) (map job_words r.jobs)) ++ rest)
    job-words-at =
        ap (λ (m : ℕ). drop (n * (k + 65) + 1 + m) (relay_state k r)) (mul_comm 15 i)
        ∙ sym (drop-drop (i * 15) (n * (k + 65) + 1) (relay_state k r))
        ∙ ap (drop (i * 15)) jobs_in ∙ drop-jobs r.jobs rest i h

    pub job_float_at : get_or (relay_state_floats k r) (n * (k + 64) + i) zero32 ≡ (get_or r.jobs i no_job).distance
    job_float_at =
        sym (get_or-drop (n * (k + 64)) (relay_state_floats k r) i zero32)
        ∙ ap (λ (l : List Float). get_or l i zero32) distances_in
        ∙ get_or-append (jobs_floats r.jobs) zeros zero32 i (let e = length-jobs_floats r.jobs in omega arith)
        ∙ ap (λ (l : List Float). get_or l i zero32) (jobs-floats r.jobs)
        ∙ get_d_mapped (λ (j : Job). j.distance) r.jobs i zero32 no_job h

    pub job-at : job_in (drop (n * (k + 65) + 1 + 15 * i) (relay_state k r)) (get_or (relay_state_floats k r) (n * (k + 64) + i) zero32) ≡ get_or r.jobs i no_job
    job-at =
        rw (job-words-at, job_float_at)
        (job-back (get_or r.jobs i no_job) (joined (drop (suc i) (map job_words r.jobs)) ++ rest) (all-at Readable r.jobs i no_job F.readable h))

  -- ---- the whole

  pub relay_back : relay_in n k (relay_state k r) (relay_state_floats k r) ≡ r
  unfolding relay_in
  relay_back =
      let us = relay_state k r in
      let fs = relay_state_floats k r in
      let m : min 64 (length r.jobs) ≡ length r.jobs = (let d = F.few in omega arith) in
      let ls : each (λ (w : ℕ). entries (get_or us (n * (k + 64) + w) 0) (part (k + 64) w us) (part (k + 64) w fs) ∷ []) n ≡ r.lists =
      each_back (λ (w : ℕ). entries (get_or us (n * (k + 64) + w) 0) (part (k + 64) w us) (part (k + 64) w fs)) r.lists [] n (sym F.nodes) (λ (w : ℕ) (h : w < length r.lists). list_at_lem w (let e = F.nodes in omega arith)) in
      let js : each (λ (i : ℕ). job_in (drop (n * (k + 65) + 1 + 15 * i) us) (get_or fs (n * (k + 64) + i) zero32) ∷ []) (min most (get_or us (n * (k + 65)) 0)) ≡ r.jobs =
      each_back (λ (i : ℕ). job_in (drop (n * (k + 65) + 1 + 15 * i) us) (get_or fs (n * (k + 64) + i) zero32)) r.jobs no_job (min most (get_or us (n * (k + 65)) 0)) (ap (min most) count_at ∙ m) job-at in
      λ i. record { lists = ls i; jobs = js i }
