-- Row 10 of all pairs: what it answers, and what is known once it has passed. Assumes nothing.
use mathlib.Core.Path.{◌≡◌, refl, sym, ◌∙◌, ap}
use mathlib.Core.Logic.{inl, inr}
use mathlib.Core.Bool.{Bool, true, false, not, cond}
use mathlib.Core.List.{List, [], ◌∷◌}
use Prim.Native.Nat.{ℕ, zero, suc, ◌-◌, ◌*◌, ◌<◌, ◌≤◌}
use native.Mathlib.Nat.{eq-or-lt_of_le}
use native.Mathlib.Omega.{arith}
use lib.Dec.{T, ltb, ltb→lt, nltb→le}
use lib.ListN.{length}
use lib.Ieee.{Float}
use borrow.Author.Tests.{lt-ltb, le-ltb, ltb-false}
use Rattle.std.specs.Prelude.{Some}
use Rattle.rules.specs.Answers.{Distance}
use Rattle.rules.specs.Distance.{total_of, zero32, distance_of, unfit, lanes_of, nodes_apart, between}
use Rattle.rules.specs.Refusals.{passed, refused, code, decide, row10, unfit_after, first_unfit}
use Rattle.metrics.specs.Finite.{AllFinite}
use Rattle.metrics.proofs.Steps.{lanes_long, room}
use Rattle.rules.proofs.Loops.{first-before}
use Rattle.metrics.proofs.Symmetry.{apart-symmetric}
use Rattle.metrics.proofs.Fitness.{is_carried, answer-fit}
use Rattle.metrics.proofs.Finite.{fit-finite, of_total}
use Rattle.metrics.proofs.Self.{between_self}

-- ---- row 10

module _ (apart : ℕ → ℕ → Distance) (n : ℕ) where
  pub refuses : (i j : ℕ) → i < n → first_unfit apart n ≡ i → unfit_after apart n i ≡ j → decide (row10 apart n ∷ []) ≡ refused (code 10 i j)
  unfolding decide row10
  refuses i j l e f = rw (e, lt-ltb i n l, f)

  pub passes : n ≤ first_unfit apart n → decide (row10 apart n ∷ []) ≡ passed
  unfolding decide row10
  passes l = rw (le-ltb (first_unfit apart n) n l)

  none_unfit : decide (row10 apart n ∷ []) ≡ passed → n ≤ first_unfit apart n
  unfolding decide row10
  none_unfit = go (ltb (first_unfit apart n) n) refl
    where
      go : (b : Bool) → ltb (first_unfit apart n) n ≡ b → cond b (refused (code 10 (first_unfit apart n) (unfit_after apart n (first_unfit apart n)))) passed ≡ passed → n ≤ first_unfit apart n
      go true e h = let z : ◌≡◌ {A = ℕ} 0 1 = cc in absurd (omega arith)
      go false e h = ltb-false (first_unfit apart n) n e

  -- "all pairs i < j": once the row has passed, none is unfit
  pub all_fit : decide (row10 apart n ∷ []) ≡ passed → (i j : ℕ) → i < j → j < n → unfit (apart i j) ≡ false
  unfolding first_unfit unfit_after
  all_fit h i j l m =
      let first : n ≤ first_unfit apart n = none_unfit h in
      let row : ltb (unfit_after apart n i) n ≡ false = first-before (λ (i : ℕ). ltb (unfit_after apart n i) n) 0 n i (omega arith) (omega arith) in
      let after : n ≤ unfit_after apart n i = ltb-false (unfit_after apart n i) n row in
      first-before (λ (j : ℕ). unfit (apart i j)) (suc i) (n - suc i) j l (omega arith)

-- ---- the distances that build, begin and iteration are told of, once the row has passed

module _ (lanes : List Float) (dimension n : ℕ) (h : decide (row10 (nodes_apart lanes dimension) n ∷ []) ≡ passed) where
  -- either way round
  both_ways : (i j : ℕ) → i < n → j < n → (i ≡ j → ⊥) → unfit (nodes_apart lanes dimension i j) ≡ false
  both_ways i j l m d = go (ltb i j) (ltb→lt i j) (nltb→le i j)
    where
      go : (t : Bool) → (T t → i < j) → (T (not t) → j ≤ i) → unfit (nodes_apart lanes dimension i j) ≡ false
      go true below above = all_fit (nodes_apart lanes dimension) n h i j (below tt) m
      go false below above = elim (eq-or-lt_of_le (above tt)) [
        | inl e ↦ absurd (d (sym e))
        | inr k ↦ ap unfit (apart-symmetric lanes dimension i j) ∙ all_fit (nodes_apart lanes dimension) n h j i k l
      ]

  pub passed-fit : (i j : ℕ) → i < n → j < n → (i ≡ j → ⊥) → nodes_apart lanes dimension i j ≡ Some (between lanes dimension i j)
  unfolding between
  passed-fit i j l m d = is_carried (nodes_apart lanes dimension i j) (both_ways i j l m d)

  -- every lane is finite
  pub passed-finite : length lanes ≡ n * dimension → 2 ≤ n → (i : ℕ) → i < n → AllFinite (lanes_of lanes dimension i)
  unfolding nodes_apart distance_of
  passed-finite e two i l = go i l
    where
      against : (i j : ℕ) → i < n → j < n → (i ≡ j → ⊥) → AllFinite (lanes_of lanes dimension i)
      against i j l m d =
          let a = lanes_of lanes dimension i in
          let b = lanes_of lanes dimension j in
          let long : length a ≡ length b = lanes_long lanes dimension i (room _ n dimension i e l) ∙ sym (lanes_long lanes dimension j (room _ n dimension j e m)) in
          (of_total zero32 a b long (fit-finite _ (answer-fit (total_of zero32 a b) (both_ways i j l m d)))).1.0

      go : (i : ℕ) → i < n → AllFinite (lanes_of lanes dimension i)
      go zero l = against zero 1 l two (λ s. absurd (omega arith))
      go (suc i) l = against (suc i) 0 l (omega arith) (λ s. absurd (omega arith))

  pub passed_self : length lanes ≡ n * dimension → 2 ≤ n → (i : ℕ) → i < n → between lanes dimension i i ≡ zero32
  passed_self e two i l = between_self lanes dimension i (passed-finite e two i l)
