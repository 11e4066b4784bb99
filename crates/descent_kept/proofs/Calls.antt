-- The state that begin or an iteration leaves is well formed, so the next iteration is not refused with 12. Assumes nothing.
use mathlib.Core.Path.{◌≡◌}
use mathlib.Core.Bool.{true, false}
use mathlib.Core.List.{[], ◌∷◌}
use Prim.Native.Nat.{ℕ, ◌*◌, ◌≤◌, ◌<◌}
use native.Mathlib.Omega.{arith}
use lib.ListN.{length}
use borrow.Author.Tests.{not-false}
use Rattle.rules.specs.Numbers.{most, most_taught, outside}
use Rattle.rules.specs.Distance.{between}
use Rattle.rules.specs.Refusals.{passed, decide, row2, row4, row6, row12}
use Rattle.rules.specs.Calls.{descent_words, descent_rows, begin_rows, iterate_rows}
use Rattle.rules.specs.Descent.{Descent, begun, iterated}
use Rattle.rules.specs.DescentPlaces.{descent_in, descent_formed}
use Rattle.rules.specs.DescentCall.{DescentLent, descent_written, begin_table, begin_obeys, begin_rule, iterate_table, iterate_ends, iterate_obeys, iterate_rule}
use Rattle.rules.proofs.Tables.{within, all_fail, none_hold, exactly, Fail}
use Rattle.neighbor.proofs.Bits.{holdable_between}
use Rattle.metrics.proofs.Fitness.{between-fit}
use Rattle.encoded.specs.Words.{Binary32}
use Rattle.descent_kept.specs.Formed.{Formed}
use Rattle.descent_kept.proofs.Tested.{formed_encoded, tested}
use Rattle.descent_kept.proofs.Kept.{begun-formed, iterated-formed}

-- rows 2 and 4
pub record Sizes (n k s : ℕ) : Type 0 where
  pub nodes : 0 < n
  pub some : 1 ≤ k
  pub most : k ≤ 64
  pub few : s ≤ 64

sizes : (n k s : ℕ) → outside 2 most_taught n ≡ false → outside 1 most k ≡ false → outside 1 k s ≡ false → Sizes n k s
sizes n k s a b c =
    let p = within 2 most_taught n a in
    let q = within 1 most k b in
    let r = within 1 k s c in
    let p1 = p.from in
    let q2 = q.to in
    let r2 = r.to in
    record { nodes = omega arith; some = q.from; most = q.to; few = omega arith }

-- ---- begin

module _ (l : DescentLent) where
  pub begin_sizes : decide (begin_table l) ≡ passed → Sizes l.n l.k l.s
  unfolding begin_table begin_rows descent_rows row2 row4
  begin_sizes h =
      let F = all_fail (begin_table l) h in
      let four = none_hold (outside 1 most l.k ∷ outside 1 l.k l.s ∷ []) F.1.1.1.0 in
      sizes l.n l.k l.s F.1.0 four.0 four.1.0

  pub begin_formed : decide (begin_table l) ≡ passed → Formed l.n l.k (begun l.draws l.n l.k l.s)
  begin_formed h = let z = begin_sizes h in begun-formed l.draws l.n l.k l.s z.nodes z.few

  pub begin_leaves : decide (begin_table l) ≡ passed → descent_formed l.n l.k (begin_rule l).left.state_u (begin_rule l).left.state_f ≡ true
  unfolding begin_rule begin_obeys descent_written
  begin_leaves h = rw h (formed_encoded (begun l.draws l.n l.k l.s) (begin_formed h))

  -- ---- an iteration

  module _ (B : Binary32 l.state_f) (h : decide (iterate_table l) ≡ passed) where
    rows : Fail (iterate_table l)
    rows = all_fail (iterate_table l) h

    pub iterate_sizes : Sizes l.n l.k l.s
    unfolding iterate_table iterate_rows descent_rows row2 row4
    iterate_sizes =
        let four = none_hold (outside 1 most l.k ∷ outside 1 l.k l.s ∷ []) rows.1.1.1.0 in
        sizes l.n l.k l.s rows.1.0 four.0 four.1.0

    -- what an iteration reads
    pub read-formed : Formed l.n l.k (descent_in l.n l.k l.state_u l.state_f)
    unfolding iterate_table iterate_rows descent_rows row6 row12
    read-formed =
        let six = none_hold _ rows.1.1.1.1.0 in
        let us = exactly (descent_words l.n l.k) (length l.state_u) six.0 in
        let fs = exactly (l.n * l.k) (length l.state_f) six.1.0 in
        (tested l.n l.k l.state_u l.state_f B us fs (not-false (descent_formed l.n l.k l.state_u l.state_f) rows.1.1.1.1.1.1.1.0)).formed

    abbrev x : Descent
    x = (iterated (between l.lanes l.dimension) l.draws l.n l.k l.s (descent_in l.n l.k l.state_u l.state_f)).descent

    pub iterate_formed : Formed l.n l.k (iterated (between l.lanes l.dimension) l.draws l.n l.k l.s (descent_in l.n l.k l.state_u l.state_f)).descent
    iterate_formed =
        let z = iterate_sizes in
        iterated-formed (between l.lanes l.dimension) l.n l.k l.s z.nodes z.some z.most z.few (holdable_between l.lanes l.dimension) (between-fit l.lanes l.dimension) l.draws
        (descent_in l.n l.k l.state_u l.state_f) read-formed

    pub iterate_leaves : descent_formed l.n l.k (iterate_rule l).left.state_u (iterate_rule l).left.state_f ≡ true
    unfolding iterate_rule iterate_obeys iterate_ends descent_written
    iterate_leaves = rw h (formed_encoded x iterate_formed)
