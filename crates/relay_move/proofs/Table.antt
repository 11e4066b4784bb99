-- Which row of a move's table decides, and what it is that none holds. Assumes nothing.
use mathlib.Core.Path.{◌≡◌, refl, sym, ap, ◌∙◌}
use mathlib.Core.Bool.{Bool, true, false, ◌||◌}
use mathlib.Core.List.{List, [], ◌∷◌}
use Prim.Native.Nat.{ℕ, suc, ◌+◌, ◌*◌, ◌≤◌, ◌<◌}
use native.Mathlib.Nat.{mul-suc, mul-le-mul}
use native.Mathlib.Omega.{arith}
use borrow.Author.Tests.{leb-false, not-false}
use lib.Dec.{eqb, leb}
use lib.ListN.{length, get_or}
use lib.Ieee.{Float}
use Rattle.rules.specs.Loops.{any_of}
use Rattle.rules.specs.Numbers.{outside}
use Rattle.rules.specs.Refusals.{code, passed, refused, decide, holds, not_exactly, row2, row4, row6, row12, row13}
use Rattle.rules.specs.Calls.{relay_words, relay_floats, move_rows}
use Rattle.rules.specs.Relay.{Relay, is_finished, job_at}
use Rattle.rules.specs.RelayPlaces.{relay_in, relay_formed}
use Rattle.rules.specs.RelayCall.{MoveLent, relay_of, move_table}
use Rattle.rules.proofs.Tables.{all_fail, none_hold, within, exactly}
use Rattle.rules.proofs.Tests.{neither}
use Rattle.encoded.specs.Words.{Binary32}
use Rattle.relay_state.specs.State.{Sized}
use Rattle.relay_state.proofs.Parts.{sizes}
use Rattle.relay_state.proofs.Reading.{jobs-long}
use Rattle.relay_state.proofs.Whole.{facts, count-is}
use Rattle.relay_move.specs.Moves.{job_place, no_step}
use Rattle.relay_move.specs.Move.{lent}
use Rattle.relay_move.proofs.Half.{finished-is}

-- ---- row 6

module _ (n k words floats : ℕ) where
  abbrev pub lengths : List Bool
  lengths = not_exactly (relay_words n k) words ∷ not_exactly (relay_floats n k) floats ∷ []

  lengths_right : any_of holds lengths ≡ false → (words ≡ relay_words n k) × (floats ≡ relay_floats n k)
  lengths_right h =
      let F = none_hold lengths h in
      (exactly (relay_words n k) words F.0, exactly (relay_floats n k) floats F.1.0)

-- ---- row 13

module _ {n k : ℕ} {us : List ℕ} {fs : List Float} (z : Sized n k us fs) (B : Binary32 fs) (good : relay_formed n k us fs ≡ true) (i : ℕ) where
  abbrev r : Relay
  r = relay_in n k us fs

  pub jobs_are : get_or us (n * (k + 64) + n) 0 ≡ length r.jobs
  jobs_are =
      let s = sizes z in
      ap (λ (m : ℕ). get_or us m 0) (sym s.jobs) ∙ count-is z (facts n k us fs B good) ∙ sym (jobs-long n k us fs)

  pub few-jobs : get_or us (n * (k + 64) + n) 0 ≤ 64
  few-jobs = let a = jobs_are in let b = jobs-long n k us fs in omega arith

  pub no_step_lem : no_step n k us i ≡ (leb (length r.jobs) i || is_finished (job_at r i))
  unfolding no_step
  no_step_lem = ap (λ (m : ℕ). leb m i || eqb (get_or us (job_place n k i + 2) 0) 8) jobs_are ∙ go (leb (length r.jobs) i) refl
    where
      go : (b : Bool) → leb (length r.jobs) i ≡ b → (b || eqb (get_or us (job_place n k i + 2) 0) 8) ≡ (b || is_finished (job_at r i))
      go true e = refl
      go false e = sym (finished-is z B good i (leb-false (length r.jobs) i e))

-- ---- the words that say how many jobs there are, and how many steps are done

pub record Lies (n k words : ℕ) : Type 0 where
  pub room : k + 64 ≤ 128
  pub nodes : n ≤ 1024
  pub lists : n * (k + 64) ≤ 131072
  pub all : words ≡ n * (k + 64) + n + 1024

pub lies : (n k words : ℕ) → n ≤ 1024 → k ≤ 64 → words ≡ relay_words n k → Lies n k words
lies n k words few size long =
    let room : k + 64 ≤ 128 = omega arith in
    let one : n * (k + 65) ≡ n * (k + 64) + n = ap (λ (m : ℕ). n * m) (let g : k + 65 ≡ suc (k + 64) = omega arith in g) ∙ mul-suc n (k + 64) in
    let product : n * (k + 64) ≤ 1024 * 128 = mul-le-mul few room in
    record { room = room; nodes = few; lists = omega arith; all = omega arith }

-- ---- the rows in order

module _ (n k job : ℕ) (us : List ℕ) (fs : List Float) where
  abbrev l : MoveLent
  l = lent n k job us fs

  pub by_nodes : outside 2 1024 n ≡ true → refused (code 2 0 0) ≡ decide (move_table l)
  unfolding move_table move_rows row2 decide
  by_nodes h = rw h

  module _ (nodes : outside 2 1024 n ≡ false) where
    pub by_k : outside 1 64 k ≡ true → refused (code 4 0 0) ≡ decide (move_table l)
    unfolding move_table move_rows row2 row4 decide any_of
    by_k h = rw (nodes, h)

    module _ (size : outside 1 64 k ≡ false) where
      pub by_lengths : any_of holds (lengths n k (length us) (length fs)) ≡ true → refused (code 6 0 0) ≡ decide (move_table l)
      unfolding move_table move_rows row2 row4 row6 decide any_of
      by_lengths h = rw (nodes, size, h)

      module _ (long : any_of holds (lengths n k (length us) (length fs)) ≡ false) where
        pub sized : Sized n k us fs
        sized =
            let a = within 2 1024 n nodes in
            let b = within 1 64 k size in
            let c = lengths_right n k (length us) (length fs) long in
            record { nodes = a.to; some = b.from; few = b.to; words = c.0; floats = c.1 }

        pub by_state : relay_formed n k us fs ≡ false → refused (code 12 0 0) ≡ decide (move_table l)
        unfolding move_table move_rows row2 row4 row6 row12 decide any_of
        by_state h = rw (nodes, size, long, h)

        module _ (B : Binary32 fs) (good : relay_formed n k us fs ≡ true) where
          pub by_step : no_step n k us job ≡ true → refused (code 13 job 0) ≡ decide (move_table l)
          unfolding move_table move_rows row2 row4 row6 row12 row13 decide any_of
          by_step h = rw (nodes, size, long, good, sym (no_step_lem sized B good job) ∙ h)

          pub by_none : no_step n k us job ≡ false → passed ≡ decide (move_table l)
          unfolding move_table move_rows row2 row4 row6 row12 row13 decide any_of
          by_none h = rw (nodes, size, long, good, sym (no_step_lem sized B good job) ∙ h)

-- ---- no row holds

pub record Ready (l : MoveLent) : Type 0 where
  pub sized : Sized l.n l.k l.state_u l.state_f
  pub formed : relay_formed l.n l.k l.state_u l.state_f ≡ true
  pub present : l.job < length (relay_of l).jobs
  pub unfinished : is_finished (job_at (relay_of l) l.job) ≡ false

pub ready : (l : MoveLent) → decide (move_table l) ≡ passed → Ready l
unfolding move_table move_rows row2 row4 row6 row12 row13
ready l h =
    let F = all_fail _ h in
    let ranges = none_hold (outside 1 64 l.k ∷ []) F.1.0 in
    let e = neither (leb (length (relay_of l).jobs) l.job) (is_finished (job_at (relay_of l) l.job)) F.1.1.1.1.0 in
    record {
      sized = sized l.n l.k l.job l.state_u l.state_f F.0 ranges.0 F.1.1.0;
      formed = not-false _ F.1.1.1.0;
      present = leb-false (length (relay_of l).jobs) l.job e.0;
      unfinished = e.1;
    }
