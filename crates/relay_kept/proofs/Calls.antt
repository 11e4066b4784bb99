-- A move of an unfinished job of a well-formed relay always succeeds, and so does a close when all jobs are finished. Assumes nothing.
use mathlib.Core.Path.{◌≡◌, ap, ◌∙◌}
use mathlib.Core.Bool.{true, false, not, ◌||◌}
use mathlib.Core.List.{List, [], ◌∷◌}
use Prim.Native.Nat.{ℕ, ◌*◌, ◌≤◌, ◌<◌}
use lib.Dec.{leb, ltb}
use lib.ListN.{length}
use lib.Ieee.{Float}
use borrow.Author.Tests.{lt-leb, le-ltb, lt-ltb}
use Rattle.rules.specs.Numbers.{most, most_taught, outside}
use Rattle.rules.specs.Refusals.{no_refusal, code, Decision, passed, decide, not_exactly, row2, row4, row6, row12, row13}
use Rattle.rules.specs.Calls.{relay_words, relay_floats, move_rows, close_rows}
use Rattle.rules.specs.Loops.{over}
use Rattle.rules.specs.Relay.{Relay, moved, is_finished, job_at, lowest_unfinished, reports_of}
use Rattle.rules.specs.Places.{list_words, list_floats}
use Rattle.rules.specs.RelayPlaces.{relay_state, relay_state_floats, relay_in, relay_formed}
use Rattle.rules.specs.RelayCall.{move_table, move_obeys, move_rule, CloseLent, close_table, close_obeys, close_rule}
use Rattle.rules.proofs.Tables.{decide-append, held, all_pass, hold_none, is-exactly}
use Rattle.encoded.proofs.Back.{relay_back, state-long, floats_long}
use Rattle.relay_kept.specs.Formed.{Formed}
use Rattle.relay_kept.specs.Calls.{Sizes, moving, leaves}
use Rattle.relay_kept.proofs.Tested.{fitting, formed_encoded}

module _ {n k : ℕ} (Z : Sizes n k) (r : Relay) (F : Formed n k r) where
  back : relay_in n k (relay_state k r) (relay_state_floats k r) ≡ r
  back = relay_back n k r (fitting r F)

  long-us : not_exactly (relay_words n k) (length (relay_state k r)) ≡ false
  long-us = is-exactly (relay_words n k) (length (relay_state k r)) (state-long n k r (fitting r F))

  long_fs : not_exactly (relay_floats n k) (length (relay_state_floats k r)) ≡ false
  long_fs = is-exactly (relay_floats n k) (length (relay_state_floats k r)) (floats_long n k r (fitting r F))

  formed-not : not (relay_formed n k (relay_state k r) (relay_state_floats k r)) ≡ false
  formed-not = rw (formed_encoded r F)

  -- "no order of moves is ever refused with 12, and a move of an unfinished job always succeeds"
  pub move_passes : (i : ℕ) → i < length r.jobs → is_finished (job_at r i) ≡ false → decide (move_table (moving n k r i)) ≡ passed
  unfolding move_table move_rows row2 row4 row6 row12 row13
  move_passes i h f =
      all_pass (move_table (moving n k r i)) (
        Z.nodes,
        (
          hold_none (outside 1 most k ∷ []) (Z.size, tt),
          (
            hold_none (not_exactly (relay_words n k) (length (relay_state k r)) ∷ not_exactly (relay_floats n k) (length (relay_state_floats k r)) ∷ []) (long-us, (long_fs, tt)),
            (formed-not, (rw (back, lt-leb (length r.jobs) i h, f), tt)),
          ),
        ),
      )

  pub move_leaves : (i : ℕ) → i < length r.jobs → is_finished (job_at r i) ≡ false → move_rule (moving n k r i) ≡ leaves k (moved k r i)
  unfolding move_rule move_obeys
  move_leaves i h f = rw (move_passes i h f) (ap (λ (x : Relay). leaves k (moved k x i)) back)

  -- "a move for an absent or finished job": 13, and the state stays
  pub move_refused : (i : ℕ) → (leb (length r.jobs) i || is_finished (job_at r i)) ≡ true
      → move_rule (moving n k r i) ≡ record { said = code 13 i 0; state_u = relay_state k r; state_f = relay_state_floats k r }
  unfolding move_rule move_obeys move_table move_rows row2 row4 row6 row12 row13
  move_refused i h =
      let us = relay_state k r in
      let fs = relay_state_floats k r in
      let rs =
      row2 most_taught n ∷ row4 (outside 1 most k ∷ []) ∷ row6 (not_exactly (relay_words n k) (length us) ∷ not_exactly (relay_floats n k) (length fs) ∷ [])
      ∷ row12 (relay_formed n k us fs) ∷ [] in
      let wrong = leb (length (relay_in n k us fs).jobs) i || is_finished (job_at (relay_in n k us fs) i) in
      let p =
      all_pass rs (
        Z.nodes,
        (
          hold_none (outside 1 most k ∷ []) (Z.size, tt),
          (hold_none (not_exactly (relay_words n k) (length us) ∷ not_exactly (relay_floats n k) (length fs) ∷ []) (long-us, (long_fs, tt)), (formed-not, tt)),
        ),
      ) in
      ap (move_obeys (moving n k r i))
      (decide-append rs (row13 wrong i ∷ []) p ∙ held (row13 wrong i) [] (ap (λ (x : Relay). leb (length x.jobs) i || is_finished (job_at x i)) back ∙ h))

  -- a close that finds every job finished
  module _ (nodes : List ℕ) (distances : List Float) (reports : List ℕ) (ns : length nodes ≡ n * k) (ds : length distances ≡ n * k) (rs_long : length reports ≡ 128) where
    abbrev pub closed : CloseLent
    closed = record { n = n; k = k; state_u = relay_state k r; state_f = relay_state_floats k r; nodes = nodes; distances = distances; reports = reports }

    pub close_passes : length r.jobs ≤ lowest_unfinished r → decide (close_table closed) ≡ passed
    unfolding close_table close_rows row2 row4 row6 row12 row13
    close_passes u =
        all_pass (close_table closed) (
          Z.nodes,
          (
            hold_none (outside 1 most k ∷ []) (Z.size, tt),
            (
              hold_none
                  (not_exactly (relay_words n k) (length (relay_state k r)) ∷ not_exactly (relay_floats n k) (length (relay_state_floats k r)) ∷ not_exactly (n * k) (length nodes)
                  ∷ not_exactly (n * k) (length distances) ∷ not_exactly 128 (length reports) ∷ [])
                  (long-us, (long_fs, (is-exactly (n * k) (length nodes) ns, (is-exactly (n * k) (length distances) ds, (is-exactly 128 (length reports) rs_long, tt))))),
              (formed-not, (rw (back, le-ltb (lowest_unfinished r) (length r.jobs) u), tt)),
            ),
          ),
        )

    pub close_gives :
        length r.jobs ≤ lowest_unfinished r
        → close_rule closed
        ≡ record {
          said = no_refusal;
          nodes = list_words r.lists;
          distances = list_floats r.lists;
          reports = over (length (reports_of r.jobs)) (reports_of r.jobs) reports;
        }
    unfolding close_rule close_obeys
    close_gives u = rw (close_passes u, back)

    -- "a close with one unfinished": 13, and the lowest of them
    pub close_refused : lowest_unfinished r < length r.jobs → (close_rule closed).said ≡ code 13 (lowest_unfinished r) 0
    unfolding close_rule close_obeys close_table close_rows row2 row4 row6 row12 row13
    close_refused u =
        let us = relay_state k r in
        let fs = relay_state_floats k r in
        let lengths =
        not_exactly (relay_words n k) (length us) ∷ not_exactly (relay_floats n k) (length fs) ∷ not_exactly (n * k) (length nodes)
        ∷ not_exactly (n * k) (length distances) ∷ not_exactly 128 (length reports) ∷ [] in
        let rs = row2 most_taught n ∷ row4 (outside 1 most k ∷ []) ∷ row6 lengths ∷ row12 (relay_formed n k us fs) ∷ [] in
        let read = relay_in n k us fs in
        let p =
        all_pass rs (
          Z.nodes,
          (
            hold_none (outside 1 most k ∷ []) (Z.size, tt),
            (
              hold_none lengths
                  (long-us, (long_fs, (is-exactly (n * k) (length nodes) ns, (is-exactly (n * k) (length distances) ds, (is-exactly 128 (length reports) rs_long, tt))))),
              (formed-not, tt),
            ),
          ),
        ) in
        let t : ltb (lowest_unfinished read) (length read.jobs) ≡ true = rw back (lt-ltb (lowest_unfinished r) (length r.jobs) u) in
        let e = decide-append rs (row13 (ltb (lowest_unfinished read) (length read.jobs)) (lowest_unfinished read) ∷ []) p in
        let f = held (row13 (ltb (lowest_unfinished read) (length read.jobs)) (lowest_unfinished read)) [] t in
        ap (λ (x : Decision). (close_obeys closed x).said) (e ∙ f) ∙ ap (λ (x : Relay). code 13 (lowest_unfinished x) 0) back
