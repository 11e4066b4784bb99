-- The parts of the state together: rooms, lengths and jobs. Assumes nothing.
use mathlib.Core.Path.{◌≡◌, sym, ap, ◌∙◌}
use mathlib.Core.List.{List, [], ◌∷◌, ◌++◌, append_assoc, append-nil}
use Prim.Native.Nat.{ℕ, ◌+◌, ◌-◌, ◌*◌, ◌≤◌, ◌<◌}
use native.Mathlib.Omega.{arith}
use borrow.Rule.Slice.PartMut.{put_mid}
use lib.ListN.{length, take, drop, replicate, length-drop, length-replicate, get_or-replicate, drop_of_length-le}
use lib.Seq.{take_all, ext_get_or}
use lib.Ieee.{Float}
use Rattle.rules.specs.declared.Neighbor.{Neighbor}
use Rattle.rules.specs.Loops.{each, part}
use Rattle.rules.specs.Distance.{zero32}
use Rattle.rules.specs.Lists.{entries}
use Rattle.rules.specs.Refusals.{job_count}
use Rattle.rules.specs.Build.{Between}
use Rattle.rules.specs.Relay.{Relay, job_of, opened}
use Rattle.rules.specs.Places.{padded, lists_in}
use Rattle.rules.specs.RelayPlaces.{room_words, room_floats, lengths_of, jobs_words, relay_state, relay_state_floats}
use Rattle.rules.proofs.Loops.{length-ones, get_d_ones, each-alike}
use Rattle.lists.proofs.Slices.{length-entries, nodes_of-entries, distances_of-entries}
use Rattle.encoded.proofs.Lists.{room-words, room_floats_lem, word_row, float_row, length-lengths, length_at}
use Rattle.encoded.proofs.Rows.{length_part}
use Rattle.relay_state.specs.State.{Sized}
use Rattle.relay_state.proofs.Parts.{sizes}
use Rattle.relay_state.proofs.Reading.{joined-ones}
use Rattle.relay_open.specs.Open.{first_jobs, JobsWritten, ListsPut, DistsPut, StateWritten}

module _ {A : Type 0} where
  -- the last part
  put_last : (a v : ℕ) (xs ys front : List A) → take a xs ≡ front → length xs ≤ a + v → put_mid a v xs ys ≡ front ++ ys
  put_last a v xs ys front e h =
      let behind : drop v (drop a xs) ≡ [] = drop_of_length-le (drop a xs) {i = v} (simp length-drop (omega arith)) in
      rw (behind, e) (ap (λ (l : List A). front ++ l) (append-nil ys))

module _ (n k : ℕ) (us : List ℕ) (fs : List Float) (lu : length us ≡ n * k) (lf : length fs ≡ n * k) where
  abbrev list : ℕ → List Neighbor
  list w = entries k (part k w us) (part k w fs)

  pub rooms_are : room_words (k + 64) (lists_in n k us fs) ≡ each (λ (w : ℕ). padded (k + 64) 0 (part k w us)) n
  unfolding lists_in
  rooms_are =
      room-words (k + 64) (each (λ (w : ℕ). list w ∷ []) n) ∙ joined-ones (word_row (k + 64)) list n
      ∙ each-alike (λ (w : ℕ). word_row (k + 64) (list w)) (λ (w : ℕ). padded (k + 64) 0 (part k w us)) n (λ (w : ℕ) (h : w < n).
      let a = length_part k n w us lu h in
      let b = length_part k n w fs lf h in
      ap (padded (k + 64) 0) (nodes_of-entries k (part k w us) (part k w fs) (omega arith) ∙ take_all k (part k w us) (omega arith)))

  pub floats_are : room_floats (k + 64) (lists_in n k us fs) ≡ each (λ (w : ℕ). padded (k + 64) zero32 (part k w fs)) n
  unfolding lists_in
  floats_are =
      room_floats_lem (k + 64) (each (λ (w : ℕ). list w ∷ []) n) ∙ joined-ones (float_row (k + 64)) list n
      ∙ each-alike (λ (w : ℕ). float_row (k + 64) (list w)) (λ (w : ℕ). padded (k + 64) zero32 (part k w fs)) n (λ (w : ℕ) (h : w < n).
      let a = length_part k n w us lu h in
      let b = length_part k n w fs lf h in
      ap (padded (k + 64) zero32) (distances_of-entries k (part k w us) (part k w fs) (omega arith) ∙ take_all k (part k w fs) (omega arith)))

  pub lengths_are : lengths_of (lists_in n k us fs) ≡ replicate n k
  unfolding lists_in
  lengths_are =
      let ls = each (λ (w : ℕ). list w ∷ []) n in
      let a = length-ones list n in
      let b = length-lengths ls in
      let c = length-replicate n k in
      ext_get_or 0 (lengths_of ls) (replicate n k) (omega arith) (λ (w : ℕ) h.
      let below : w < n = omega arith in
      let d = length_part k n w us lu below in
      let e = length_part k n w fs lf below in
      length_at ls w (omega arith) ∙ ap length (get_d_ones list n w [] below) ∙ length-entries k (part k w us) (part k w fs) (omega arith) (omega arith)
      ∙ sym (get_or-replicate n w k 0 below))

  module _ (d : Between) (jobs : List ℕ) {ws : List ℕ} {xs : List Float} (z : Sized n k ws xs) {ws' : List ℕ} {xs' : List Float} (lists : ListsPut n k us ws ws') (dists : DistsPut n k fs xs xs') where
    abbrev r : Relay
    r = opened d (lists_in n k us fs) jobs

    -- what is left for the jobs
    pub jobs-room : (c f : ℕ) → c ≡ length ws' - (n * (k + 64) + n) → f ≡ length xs' - n * (k + 64) → (c ≡ 1024) × (f ≡ 64)
    jobs-room c f hc hf =
        let s = sizes z in
        let w = s.all_words in
        let x = s.all_floats in
        let a = lists.long in
        let b = dists.long in
        (omega arith, omega arith)

    pub state-written : {C : List ℕ} {E : List Float} (c f : ℕ) → c ≡ 1024 → f ≡ 64 → JobsWritten d jobs (job_count jobs) C E
        → StateWritten k r (put_mid (n * (k + 64) + n) c ws' C) (put_mid (n * (k + 64)) f xs' E)
    unfolding relay_state relay_state_floats opened
    state-written {C} {E} c f hc hf w =
        let s = sizes z in
        let aw = s.all_words in
        let af = s.all_floats in
        let la = lists.long in
        let lb = dists.long in
        let A = each (λ (w : ℕ). padded (k + 64) 0 (part k w us)) n in
        let B = replicate n k in
        let D = each (λ (w : ℕ). padded (k + 64) zero32 (part k w fs)) n in
        let cnt = length-ones (job_of d jobs) (job_count jobs) in
        record {
          words_are =
              put_last (n * (k + 64) + n) c ws' C (A ++ B) lists.front (omega arith) ∙ append_assoc A B C
              ∙ ap (λ (l : List ℕ). l ++ (B ++ C)) (sym rooms_are)
              ∙ ap (λ (l : List ℕ). room_words (k + 64) (lists_in n k us fs) ++ (l ++ C)) (sym lengths_are)
              ∙ ap (λ (l : List ℕ). room_words (k + 64) (lists_in n k us fs) ++ (lengths_of (lists_in n k us fs) ++ l))
              (w.words ∙ ap (λ (m : ℕ). padded 1024 0 (m ∷ jobs_words (first_jobs d jobs (job_count jobs)))) (sym cnt));
          floats_are =
              put_last (n * (k + 64)) f xs' E D dists.front (omega arith)
              ∙ ap (λ (l : List Float). l ++ E) (sym floats_are)
              ∙ ap (λ (l : List Float). room_floats (k + 64) (lists_in n k us fs) ++ l) w.floats;
        }
