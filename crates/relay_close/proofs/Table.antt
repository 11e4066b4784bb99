-- Which row of a close's table decides, and what it is that none holds. Assumes nothing.
use mathlib.Core.Path.{◌≡◌, refl, sym, ap, ◌∙◌}
use mathlib.Core.Bool.{Bool, true, false, not, cond}
use mathlib.Core.List.{List, [], ◌∷◌}
use Prim.Native.Nat.{ℕ, zero, suc, ◌+◌, ◌*◌, ◌≤◌, ◌<◌}
use native.Mathlib.Omega.{arith}
use borrow.Author.Tests.{lt-ltb, le-ltb, ltb-false, not-false}
use lib.ListN.{length, get_or}
use lib.Ieee.{Float}
use Rattle.rules.specs.Loops.{any_of, first_from}
use Rattle.rules.specs.Numbers.{outside}
use Rattle.rules.specs.Refusals.{code, passed, refused, decide, holds, not_exactly, row2, row4, row6, row12, row13}
use Rattle.rules.specs.Calls.{relay_words, relay_floats, close_rows}
use Rattle.rules.specs.Relay.{is_finished, job_at, lowest_unfinished}
use Rattle.rules.specs.RelayPlaces.{relay_in, relay_formed}
use Rattle.rules.specs.RelayCall.{CloseLent, closing, close_table}
use Rattle.rules.proofs.Loops.{first-before}
use Rattle.rules.proofs.Tables.{all_fail, none_hold, within, exactly}
use Rattle.encoded.specs.Words.{Binary32}
use Rattle.relay_state.specs.State.{Sized}
use Rattle.relay_move.proofs.Table.{jobs_are}
use Rattle.relay_move.proofs.Half.{finished-is}
use Rattle.relay_close.specs.Close.{lent, steps_left, Done}

-- ---- row 6

module _ (n k words floats nodes distances reports : ℕ) where
  abbrev pub lengths : List Bool
  lengths = not_exactly (relay_words n k) words ∷ not_exactly (relay_floats n k) floats ∷ not_exactly (n * k) nodes ∷ not_exactly (n * k) distances ∷ not_exactly 128 reports ∷ []

  pub record Right : Type 0 where
    pub words_right : words ≡ relay_words n k
    pub floats_right : floats ≡ relay_floats n k
    pub nodes_right : nodes ≡ n * k
    pub distances_right : distances ≡ n * k
    pub reports_right : reports ≡ 128

  pub right : any_of holds lengths ≡ false → Right
  right h =
      let F = none_hold lengths h in
      record {
        words_right = exactly (relay_words n k) words F.0;
        floats_right = exactly (relay_floats n k) floats F.1.0;
        nodes_right = exactly (n * k) nodes F.1.1.0;
        distances_right = exactly (n * k) distances F.1.1.1.0;
        reports_right = exactly 128 reports F.1.1.1.1.0;
      }

-- ---- row 13: tests that are the same of the places tried find the same place

first-same : (p q : ℕ → Bool) (i t : ℕ) → ((j : ℕ) → i ≤ j → j < i + t → p j ≡ q j) → first_from p i t ≡ first_from q i t
unfolding first_from
first-same p q i zero h = refl
first-same p q i (suc t) h =
    ap (λ (b : Bool). cond b i (first_from p (suc i) t)) (h i (omega arith) (omega arith))
    ∙ ap (cond (q i) i) (first-same p q (suc i) t (λ (j : ℕ) a b. h j (omega arith) (omega arith)))

module _ {n k : ℕ} {us : List ℕ} {fs : List Float} (z : Sized n k us fs) (B : Binary32 fs) (good : relay_formed n k us fs ≡ true) where
  pub lowest_is : first_from (steps_left n k us) 0 (get_or us (n * (k + 64) + n) 0) ≡ lowest_unfinished (relay_in n k us fs)
  unfolding lowest_unfinished
  lowest_is =
      let r = relay_in n k us fs in
      ap (first_from (steps_left n k us) 0) (jobs_are z B good 0)
      ∙ first-same (steps_left n k us) (λ (i : ℕ). not (is_finished (job_at r i))) 0 (length r.jobs) (λ (j : ℕ) a b. ap not (sym (finished-is z B good j (omega arith))))

-- ---- the rows in order

module _ (n k : ℕ) (us : List ℕ) (fs : List Float) (ns : List ℕ) (ds : List Float) (rs : List ℕ) where
  abbrev l : CloseLent
  l = lent n k us fs ns ds rs

  abbrev lens : List Bool
  lens = lengths n k (length us) (length fs) (length ns) (length ds) (length rs)

  pub by_nodes : outside 2 1024 n ≡ true → refused (code 2 0 0) ≡ decide (close_table l)
  unfolding close_table close_rows row2 decide
  by_nodes h = rw h

  module _ (nodes : outside 2 1024 n ≡ false) where
    pub by_k : outside 1 64 k ≡ true → refused (code 4 0 0) ≡ decide (close_table l)
    unfolding close_table close_rows row2 row4 decide any_of
    by_k h = rw (nodes, h)

    module _ (size : outside 1 64 k ≡ false) where
      pub by_lengths : any_of holds lens ≡ true → refused (code 6 0 0) ≡ decide (close_table l)
      unfolding close_table close_rows row2 row4 row6 decide any_of
      by_lengths h = rw (nodes, size, h)

      module _ (long : any_of holds lens ≡ false) where
        pub sized : Sized n k us fs
        sized =
            let a = within 2 1024 n nodes in
            let b = within 1 64 k size in
            let c = right n k (length us) (length fs) (length ns) (length ds) (length rs) long in
            record { nodes = a.to; some = b.from; few = b.to; words = c.words_right; floats = c.floats_right }

        pub by_state : relay_formed n k us fs ≡ false → refused (code 12 0 0) ≡ decide (close_table l)
        unfolding close_table close_rows row2 row4 row6 row12 decide any_of
        by_state h = rw (nodes, size, long, h)

        module _ (B : Binary32 fs) (good : relay_formed n k us fs ≡ true) (at : ℕ) (found : at ≡ first_from (steps_left n k us) 0 (get_or us (n * (k + 64) + n) 0)) where
          lowest : at ≡ lowest_unfinished (relay_in n k us fs)
          lowest = found ∙ lowest_is sized B good

          count : get_or us (n * (k + 64) + n) 0 ≡ length (relay_in n k us fs).jobs
          count = jobs_are sized B good 0

          pub by_step : at < get_or us (n * (k + 64) + n) 0 → refused (code 13 at 0) ≡ decide (close_table l)
          unfolding close_table close_rows row2 row4 row6 row12 row13 decide any_of
          by_step h =
              let c = count in
              rw (nodes, size, long, good, ← lowest, lt-ltb at (length (relay_in n k us fs).jobs) (omega arith))

          pub by_none : get_or us (n * (k + 64) + n) 0 ≤ at → passed ≡ decide (close_table l)
          unfolding close_table close_rows row2 row4 row6 row12 row13 decide any_of
          by_none h =
              let c = count in
              rw (nodes, size, long, good, ← lowest, le-ltb at (length (relay_in n k us fs).jobs) (omega arith))

-- ---- no row holds

pub record Ready (l : CloseLent) : Type 0 where
  pub done : Done l.n l.k l.state_u l.state_f
  pub nodes_long : length l.nodes ≡ l.n * l.k
  pub distances_long : length l.distances ≡ l.n * l.k
  pub reports_long : length l.reports ≡ 128

pub ready : (l : CloseLent) → Binary32 l.state_f → decide (close_table l) ≡ passed → Ready l
unfolding close_table close_rows row2 row4 row6 row12 row13 lowest_unfinished
ready l B h =
    let F = all_fail _ h in
    let ranges = none_hold (outside 1 64 l.k ∷ []) F.1.0 in
    let r = closing l in
    let test : ℕ → Bool = λ (i : ℕ). not (is_finished (job_at r i)) in
    let b = right l.n l.k (length l.state_u) (length l.state_f) (length l.nodes) (length l.distances) (length l.reports) F.1.1.0 in
    let last = ltb-false (first_from test 0 (length r.jobs)) (length r.jobs) F.1.1.1.1.0 in
    record {
      done =
          record {
            sized = sized l.n l.k l.state_u l.state_f l.nodes l.distances l.reports F.0 ranges.0 F.1.1.0;
            values = B;
            formed = not-false _ F.1.1.1.0;
            finished = λ (i : ℕ) (g : i < length r.jobs). not-false (is_finished (job_at r i)) (first-before test 0 (length r.jobs) i (omega arith) (omega arith));
          };
      nodes_long = b.nodes_right;
      distances_long = b.distances_right;
      reports_long = b.reports_right;
    }
