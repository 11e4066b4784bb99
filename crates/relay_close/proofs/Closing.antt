-- What a close writes: the lists, k entries each, and the reports. Assumes nothing.
use mathlib.Core.Path.{◌≡◌, sym, ap, ◌∙◌}
use mathlib.Core.Bool.{true, false}
use mathlib.Core.List.{List, [], append-nil}
use Prim.Native.Nat.{ℕ, suc, ◌+◌, ◌-◌, ◌*◌, ◌≤◌, ◌<◌}
use native.Mathlib.Nat.{suc-mul, mul-le-mul, mul-le-mul_right}
use native.Mathlib.Omega.{arith}
use borrow.Rule.Slice.PartMut.{put_mid}
use lib.ListN.{length, take, drop, get_or, set, replicate}
use lib.Seq.{take_at, take-take}
use lib.Ieee.{Float}
use Rattle.rules.specs.declared.Neighbor.{Neighbor}
use Rattle.rules.specs.Loops.{part, over}
use Rattle.rules.specs.Distance.{zero32}
use Rattle.rules.specs.Lists.{nodes_of, distances_of}
use Rattle.rules.specs.Relay.{Job, Relay, no_job, is_finished, reports_of}
use Rattle.rules.specs.Places.{padded, list_words, list_floats}
use Rattle.rules.specs.RelayPlaces.{relay_in}
use Rattle.rules.proofs.Places.{part-long}
use Rattle.lists.proofs.Plain.{all_of, length-nodes, length-distances}
use Rattle.buffers.proofs.Laws.{Written, written-more}
use Rattle.encoded.specs.Words.{Rows}
use Rattle.encoded.proofs.Lists.{length-list-words, length-list-floats, part-nodes, part-distances}
use Rattle.relay_state.specs.State.{Sized}
use Rattle.relay_state.proofs.Reading.{lists-long, list_at_lem}
use Rattle.relay_state.proofs.Whole.{Facts, facts, words_are, floats_as}
use Rattle.relay_kept.proofs.Jobs.{pending-finished}
use Rattle.relay_move.specs.Moves.{job_place}
use Rattle.relay_move.proofs.Half.{taken_is}
use Rattle.relay_move.proofs.Table.{jobs_are, few-jobs}
use Rattle.relay_kept.proofs.Stages.{report_first, report_second, length-reports}
use Rattle.relay_close.specs.Close.{Done}
use Rattle.relay_close.proofs.Blocks.{Blocks, blocks_turn}

-- ---- the lists

module _ {n k : ℕ} {us : List ℕ} {fs : List Float} (d : Done n k us fs) where
  abbrev r : Relay
  r = relay_in n k us fs

  T : Facts n k us fs
  T = facts n k us fs d.values d.formed

  list-long : (w : ℕ) → w < n → length (get_or r.lists w []) ≡ k
  list-long w h =
      let a = pending-finished w r.jobs (all_of (λ (j : Job). is_finished j ≡ true) r.jobs no_job d.finished) in
      let b = T.lengths w h in
      ap length (list_at_lem n k us fs w h) ∙ omega arith

  K : Rows k r.lists
  K = all_of (λ (l : List Neighbor). length l ≡ k) r.lists [] (λ (w : ℕ) h. list-long w (let e = lists-long n k us fs in omega arith))

  pub words_long : length (list_words r.lists) ≡ n * k
  words_long = length-list-words k r.lists K ∙ ap (λ (i : ℕ). i * k) (lists-long n k us fs)

  pub floats_long : length (list_floats r.lists) ≡ n * k
  floats_long = length-list-floats k r.lists K ∙ ap (λ (i : ℕ). i * k) (lists-long n k us fs)

  -- the first k places of a room
  module _ (w : ℕ) (h : w < n) where
    pub node_block : take k (drop (w * (k + 64)) us) ≡ part k w (list_words r.lists)
    unfolding padded part
    node_block =
        let l = get_or r.lists w [] in
        let a = lists-long n k us fs in
        sym (take-take k (k + 64) (drop (w * (k + 64)) us) (omega arith))
        ∙ ap (take k) (words_are d.sized T w h ∙ ap (λ (x : List Neighbor). padded (k + 64) 0 (nodes_of x)) (sym (list_at_lem n k us fs w h)))
        ∙ take_at (nodes_of l) (replicate (k + 64 - length (nodes_of l)) 0) k (length-nodes l ∙ list-long w h)
        ∙ sym (ap (part k w) (sym (append-nil (list_words r.lists))) ∙ part-nodes k r.lists K w (omega arith) [])

    pub float_block : take k (drop (w * (k + 64)) fs) ≡ part k w (list_floats r.lists)
    unfolding padded part
    float_block =
        let l = get_or r.lists w [] in
        let a = lists-long n k us fs in
        sym (take-take k (k + 64) (drop (w * (k + 64)) fs) (omega arith))
        ∙ ap (take k) (floats_as d.sized T w h ∙ ap (λ (x : List Neighbor). padded (k + 64) zero32 (distances_of x)) (sym (list_at_lem n k us fs w h)))
        ∙ take_at (distances_of l) (replicate (k + 64 - length (distances_of l)) zero32) k (length-distances l ∙ list-long w h)
        ∙ sym (ap (part k w) (sym (append-nil (list_floats r.lists))) ∙ part-distances k r.lists K w (omega arith) [])

-- where the w-th list of k lies
pub record Block (n k w : ℕ) : Type 0 where
  pub to : w * k + k ≤ n * k
  pub small : n * k ≤ 65536

pub block : {n k : ℕ} {us : List ℕ} {fs : List Float} → Sized n k us fs → (w : ℕ) → w < n → Block n k w
block {n} {k} z w h =
    let step = suc-mul w k in
    let within : suc w * k ≤ n * k = mul-le-mul_right k h in
    let product : n * k ≤ 1024 * 64 = mul-le-mul z.nodes z.few in
    record { to = omega arith; small = omega arith }

module _ {n k : ℕ} {us : List ℕ} {fs : List Float} (d : Done n k us fs) where
  pub nodes_turn : {w : ℕ} {xs ys : List ℕ} → Blocks (list_words (relay_in n k us fs).lists) k w xs → w < n → (m p : ℕ) → m ≡ k → p ≡ k
      → ys ≡ take m (drop (w * (k + 64)) us) → Blocks (list_words (relay_in n k us fs).lists) k (w + 1) (put_mid (w * k) p xs ys)
  nodes_turn {w} {xs} {ys} inv h m p cut wide made =
      let b = block d.sized w h in
      let to = b.to in
      let g = words_long d in
      let same = made ∙ ap (λ (i : ℕ). take i (drop (w * (k + 64)) us)) cut ∙ node_block d w h in
      let long : length (part k w (list_words (relay_in n k us fs).lists)) ≡ k = part-long k w (list_words (relay_in n k us fs).lists) (omega arith) in
      blocks_turn inv p ys wide (omega arith) (ap length same ∙ long) same

  pub floats_turn : {w : ℕ} {xs ys : List Float} → Blocks (list_floats (relay_in n k us fs).lists) k w xs → w < n → (m p : ℕ) → m ≡ k → p ≡ k
      → ys ≡ take m (drop (w * (k + 64)) fs) → Blocks (list_floats (relay_in n k us fs).lists) k (w + 1) (put_mid (w * k) p xs ys)
  floats_turn {w} {xs} {ys} inv h m p cut wide made =
      let b = block d.sized w h in
      let to = b.to in
      let g = floats_long d in
      let same = made ∙ ap (λ (i : ℕ). take i (drop (w * (k + 64)) fs)) cut ∙ float_block d w h in
      let long : length (part k w (list_floats (relay_in n k us fs).lists)) ≡ k = part-long k w (list_floats (relay_in n k us fs).lists) (omega arith) in
      blocks_turn inv p ys wide (omega arith) (ap length same ∙ long) same

-- ---- the reports

module _ {n k : ℕ} {us : List ℕ} {fs : List Float} (d : Done n k us fs) {dst now : List ℕ} where
  pub reports_turn : (i : ℕ) → i < length (relay_in n k us fs).jobs → length dst ≡ 128 → length (relay_in n k us fs).jobs ≤ 64 → Written (reports_of (relay_in n k us fs).jobs) dst now (2 * i)
      → Written (reports_of (relay_in n k us fs).jobs) dst (set (set now (2 * i) (get_or us (job_place n k i + 3) 0)) (2 * i + 1) (get_or us (job_place n k i + 5) 0)) (2 * (i + 1))
  reports_turn i h long few inv =
      let js = (relay_in n k us fs).jobs in
      let e = length-reports js in
      let a = written-more (get_or us (job_place n k i + 3) 0) 0 inv (omega arith) (omega arith) (report_first js i h ∙ sym (taken_is d.sized d.values d.formed i h false)) in
      let b = written-more (get_or us (job_place n k i + 5) 0) 0 a (omega arith) (omega arith) (report_second js i h ∙ sym (taken_is d.sized d.values d.formed i h true)) in
      let two : 2 * i + 1 + 1 ≡ 2 * (i + 1) = omega arith in
      rw two at b

  pub reports-end : (i : ℕ) → i ≡ length (relay_in n k us fs).jobs → Written (reports_of (relay_in n k us fs).jobs) dst now (2 * i) → now ≡ over (length (reports_of (relay_in n k us fs).jobs)) (reports_of (relay_in n k us fs).jobs) dst
  reports-end i e inv =
      let js = (relay_in n k us fs).jobs in
      let a = length-reports js in
      inv.list ∙ ap (λ (m : ℕ). over m (reports_of js) dst) (let b : 2 * i ≡ length (reports_of js) = omega arith in b)

-- the number of jobs, as it stands
pub count-done : {n k : ℕ} {us : List ℕ} {fs : List Float} → Done n k us fs → get_or us (n * (k + 64) + n) 0 ≡ length (relay_in n k us fs).jobs
count-done d = jobs_are d.sized d.values d.formed 0

pub few-done : {n k : ℕ} {us : List ℕ} {fs : List Float} → Done n k us fs → get_or us (n * (k + 64) + n) 0 ≤ 64
few-done d = few-jobs d.sized d.values d.formed 0
