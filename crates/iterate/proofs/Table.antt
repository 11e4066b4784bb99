-- Which row of an iteration's table decides, and what it is that none holds. Assumes nothing.
use mathlib.Core.Path.{◌≡◌, refl, sym, ap, ◌∙◌}
use mathlib.Core.Bool.{Bool, true, false, not}
use mathlib.Core.List.{List, [], ◌∷◌, ◌++◌}
use Prim.Native.Nat.{ℕ, ◌*◌, ◌≤◌, ◌<◌}
use borrow.Author.Tests.{ltb-false, not-false, lt-ltb, le-ltb}
use lib.ListN.{length}
use Rattle.std.specs.Prelude.{Ok, Err}
use Rattle.rules.specs.Answers.{Answer, Distance}
use Rattle.rules.specs.declared.Refusal.{Refusal}
use Rattle.rules.specs.Distance.{nodes_apart}
use Rattle.rules.specs.Refusals.{Row, code, passed, refused, decide, decision_of, row11, row12}
use Rattle.rules.specs.Calls.{scratch, descent_rows, iterate_rows}
use Rattle.rules.specs.DescentPlaces.{descent_formed}
use Rattle.rules.specs.DescentCall.{DescentLent, iterate_table}
use Rattle.rules.proofs.Tables.{all_fail, passes, held, left}
use Rattle.table.proofs.Rows.{by_answer, past_answer}
use Rattle.descent.proofs.Table.{rows, Ready, ready}
use Rattle.descent.proofs.Outcomes.{rows_of}

-- ---- the rows in order

module _ (dimension n lanes k s us fs words floats : ℕ) (apart : ℕ → ℕ → Distance) (draws : ℕ) (well_formed : Bool) where
  abbrev table : List Row
  table = iterate_rows dimension n lanes k s us fs (scratch words floats) apart draws well_formed

  abbrev first : List Row
  first = rows dimension n lanes k s us fs words floats apart

  abbrev draws_row : Row
  draws_row = row11 (2 * n * k) draws

  abbrev later : List Row
  later = draws_row ∷ row12 well_formed ∷ []

  module _ {a : Answer} (e : decision_of a ≡ decide first) where
    -- what begin tests too
    pub by_shared : {r : Refusal} → a ≡ Err r → decision_of a ≡ decide table
    unfolding iterate_rows descent_rows
    by_shared f = by_answer first later e f

    module _ (f : a ≡ (Ok tt)) where
      past : decide table ≡ decide later
      unfolding iterate_rows descent_rows
      past = past_answer first later e f

      pub by_draws : draws < 2 * n * k → refused (code 11 0 0) ≡ decide table
      unfolding row11
      by_draws h = sym (past ∙ held draws_row (row12 well_formed ∷ []) (lt-ltb draws (2 * n * k) h))

      module _ (h : 2 * n * k ≤ draws) where
        past_draws : decide table ≡ decide (row12 well_formed ∷ [])
        unfolding row11
        past_draws = past ∙ left draws_row (row12 well_formed ∷ []) (le-ltb draws (2 * n * k) h)

        pub by_state : well_formed ≡ false → refused (code 12 0 0) ≡ decide table
        unfolding row12
        by_state g = sym (past_draws ∙ held (row12 well_formed) [] (ap not g))

        pub by_none : well_formed ≡ true → passed ≡ decide table
        unfolding row12 decide
        by_none g = sym (past_draws ∙ left (row12 well_formed) [] (ap not g))

-- ---- no row holds

-- not of the first rows, and not of those behind them
both_pass : (rs qs : List Row) → decide (rs ++ qs) ≡ passed → (decide rs ≡ passed) × (decide qs ≡ passed)
unfolding decide
both_pass [] qs h = (refl, h)
both_pass (r ∷ rs) qs h =
    let p = passes r (rs ++ qs) h in
    let b = both_pass rs qs p.1 in
    (left r rs p.0 ∙ b.0, b.1)

module _ (l : DescentLent) where
  pub record IterateReady : Type 0 where
    pub ready : Ready l.dimension l.n (length l.lanes) l.k l.s (length l.state_u) (length l.state_f) (length l.scratch_u) (length l.scratch_f)
    pub draws : 2 * l.n * l.k ≤ length l.draws
    pub formed : descent_formed l.n l.k l.state_u l.state_f ≡ true

  abbrev later_of : List Row
  later_of = row11 (2 * l.n * l.k) (length l.draws) ∷ row12 (descent_formed l.n l.k l.state_u l.state_f) ∷ []

  pub iterate_ready : decide (iterate_table l) ≡ passed → IterateReady
  unfolding iterate_table iterate_rows descent_rows row11 row12
  iterate_ready h =
      let b = both_pass (rows_of l) later_of h in
      let F = all_fail later_of b.1 in
      record { ready = ready (nodes_apart l.lanes l.dimension) b.0; draws = ltb-false _ _ F.0; formed = not-false _ F.1.0 }
