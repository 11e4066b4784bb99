-- Open answers when it is asked as the demand says: no row of its table holds. Assumes nothing.
use mathlib.Core.Path.{◌≡◌, refl, ap}
use mathlib.Core.Bool.{Bool, true, false, not, ◌&&◌}
use mathlib.Core.List.{[], ◌∷◌}
use Prim.Native.Nat.{ℕ, ◌*◌, ◌<◌}
use lib.Dec.{eqb, ltb}
use lib.ListN.{length}
use borrow.Author.Tests.{lt-leb, le-ltb}
use Rattle.rules.specs.Numbers.{most, outside}
use Rattle.rules.specs.Distance.{unfit, nodes_apart}
use Rattle.rules.specs.Refusals.{passed, decide, not_exactly, less_than, bad_job, first_bad_job, unfit_job, first_unfit_job, row1, row2, row3, row4, row6, row9, row10_of_jobs, row12}
use Rattle.rules.specs.Calls.{taught_scratch, relay_words, relay_floats, odd, open_rows}
use Rattle.rules.specs.RelayCall.{OpenLent, open_table, open_obeys, open_rule}
use Rattle.rules.proofs.Tables.{all_pass, hold_none, is-exactly, inside}
use Rattle.orders.specs.Demand3.{Asked, pairs, u, v}
use Rattle.orders.proofs.Runs.{none_first}
use Rattle.orders.proofs.Called.{Opens}

module _ (l : OpenLent) (A : Asked l) where
  -- row 9
  none_bad : ltb (first_bad_job l.n l.jobs) (pairs l) ≡ false
  unfolding first_bad_job bad_job
  none_bad =
      le-ltb (first_bad_job l.n l.jobs) (pairs l) (none_first (bad_job l.n l.jobs) (pairs l) (λ (i : ℕ) (h : i < pairs l).
      rw (lt-leb l.n (u l i) (A.us i h), lt-leb l.n (v l i) (A.vs i h))))

  -- row 10
  none_unfit : ltb (first_unfit_job (nodes_apart l.lanes l.dimension) l.jobs) (pairs l) ≡ false
  unfolding first_unfit_job unfit_job unfit
  none_unfit =
      le-ltb (first_unfit_job (nodes_apart l.lanes l.dimension) l.jobs) (pairs l) (none_first (unfit_job (nodes_apart l.lanes l.dimension) l.jobs) (pairs l) (λ (i : ℕ) (h : i < pairs l).
      at i h (eqb (u l i) (v l i)) refl))
    where
      at : (i : ℕ) → i < pairs l → (b : Bool) → eqb (u l i) (v l i) ≡ b → (not b && unfit (nodes_apart l.lanes l.dimension (u l i) (v l i))) ≡ false
      at i h true q = refl
      at i h false q = ap unfit (A.fit i h q)

  asked_passes : decide (open_table l) ≡ passed
  unfolding open_table open_rows row1 row2 row3 row4 row6 row9 row10_of_jobs row12
  asked_passes =
      let L = A.lent in
      all_pass (open_table l) (
        L.dimension,
        (
          L.n,
          (
            is-exactly (l.n * l.dimension) (length l.lanes) L.lanes,
            (
              hold_none (outside 1 most l.k ∷ []) (L.k, tt),
              (
                hold_none
                    (not_exactly (l.n * l.k) (length l.nodes) ∷ not_exactly (l.n * l.k) (length l.distances) ∷ odd (length l.jobs)
                    ∷ not_exactly (relay_words l.n l.k) (length l.state_u) ∷ not_exactly (relay_floats l.n l.k) (length l.state_f)
                    ∷ less_than (taught_scratch l.n) (length l.scratch_u) ∷ less_than (taught_scratch l.n) (length l.scratch_f) ∷ []) (
                      is-exactly (l.n * l.k) (length l.nodes) L.nodes,
                      (
                        is-exactly (l.n * l.k) (length l.distances) L.distances,
                        (
                          L.jobs,
                          (
                            is-exactly (relay_words l.n l.k) (length l.state_u) L.words,
                            (
                              is-exactly (relay_floats l.n l.k) (length l.state_f) L.floats,
                              (le-ltb (length l.scratch_u) (taught_scratch l.n) L.scratch_words, (le-ltb (length l.scratch_f) (taught_scratch l.n) L.scratch_floats, tt)),
                            ),
                          ),
                        ),
                      ),
                    ),
                (rw (inside 1 most (pairs l) A.some A.few) none_bad, (none_unfit, (ap not A.lists, tt))),
              ),
            ),
          ),
        ),
      )

  pub asked_opens : Opens l
  unfolding open_rule open_obeys
  asked_opens = record { answers = rw asked_passes; floats = A.binary }
