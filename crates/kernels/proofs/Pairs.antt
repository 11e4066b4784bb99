-- Pairs that are fit: of one more node with the eight of a block, of one more block, and of all. Assumes nothing.
use mathlib.Core.Path.{◌≡◌, refl, sym, ap, subst, ◌∙◌}
use mathlib.Core.Bool.{Bool, true, false, not, cond}
use mathlib.Core.List.{List, [], ◌∷◌}
use Prim.Native.Nat.{ℕ, suc, ◌+◌, ◌-◌, ◌≤◌, ◌<◌}
use native.Mathlib.Omega.{arith}
use lib.Dec.{T, ltb}
use lib.ListN.{length, get_or}
use lib.Ieee.{Float, nan}
use borrow.Author.Tests.{ltb-true, ltb-false, not-true}
use Rattle.std.specs.Prelude.{Some, None}
use Rattle.rules.specs.Answers.{Distance}
use Rattle.rules.specs.Distance.{total_of, zero32, fit, answer, unfit, distance_of, lanes_of, nodes_apart}
use Rattle.rules.specs.Refusals.{passed, decide, row10, unfit_after, first_unfit}
use Rattle.rules.proofs.Loops.{first-from, first_holds}
use Rattle.metrics.proofs.Symmetry.{apart-symmetric}
use Rattle.metrics.proofs.Pairs.{passes}
use Rattle.kernels.specs.Eight.{column, held, Holds, Totals, all_fit, eight_fit, block_fit}
use Rattle.zeros.specs.Zeros.{all_below}
use Rattle.zeros.proofs.Laws.{all_none, all_turn, all-at, all-not}
use Rattle.kernels.proofs.Laws.{held_below, all_same}

-- no pair i < j is unfit, of i from lo below hi and j below m
abbrev pub Clear : (ℕ → ℕ → Distance) → ℕ → ℕ → ℕ → ℕ → Type 0
Clear apart n lo hi m = (i j : ℕ) → lo ≤ i → i < hi → i < j → j < m → unfit (apart i j) ≡ false

fit_apart : (x : Float) → fit x ≡ not (unfit (answer x))
unfolding answer unfit
fit_apart x = go (fit x)
  where
    go : (b : Bool) → b ≡ not (unfit (cond b (Some x) None))
    go true = refl
    go false = refl

-- what a total of the block is, of a node that is there
pub total-is : (lanes : List Float) (dimension n base : ℕ) (block x totals : List Float) (t : ℕ) → Holds lanes dimension n base 8 block → length x ≡ dimension → Totals x block totals
    → t < 8 → base + t < n → get_or totals t nan ≡ total_of zero32 x (lanes_of lanes dimension (base + t))
total-is lanes dimension n base block x totals t holds long made h k =
    made t h ∙ ap (λ (d : ℕ). total_of zero32 x (column t d block)) long
    ∙ ap (total_of zero32 x) (holds t h ∙ ap (lanes_of lanes dimension) (held_below n (base + t) k))

-- what the eight totals of node j say
pub totals_fit : (lanes : List Float) (dimension n base : ℕ) (block x totals : List Float) (j : ℕ) → Holds lanes dimension n base 8 block → x ≡ lanes_of lanes dimension j
    → length x ≡ dimension → Totals x block totals → all_fit totals ≡ eight_fit (nodes_apart lanes dimension) n base j
unfolding eight_fit nodes_apart distance_of
totals_fit lanes dimension n base block x totals j holds e long made =
    all_same (λ (t : ℕ). fit (get_or totals t nan)) (λ (t : ℕ). not (unfit (nodes_apart lanes dimension j (held n (base + t))))) 8 (λ (t : ℕ) (h : t < 8).
    let v = held n (base + t) in
    let total : get_or totals t nan ≡ total_of zero32 (lanes_of lanes dimension j) (lanes_of lanes dimension v) =
    made t h ∙ ap (λ (d : ℕ). total_of zero32 x (column t d block)) long ∙ ap (total_of zero32 x) (holds t h)
    ∙ ap (λ (y : List Float). total_of zero32 y (lanes_of lanes dimension v)) e in
    fit_apart (get_or totals t nan) ∙ ap (λ (y : Float). not (unfit (answer y))) total)

-- the nodes before j are fit with the eight
abbrev pub FitTo : (ℕ → ℕ → Distance) → ℕ → ℕ → ℕ → Type 0
FitTo apart n base j = all_below (λ (i : ℕ). eight_fit apart n base (base + i)) (j - base) ≡ true

module _ (apart : ℕ → ℕ → Distance) (n base j : ℕ) where
  abbrev p : ℕ → Bool
  p i = eight_fit apart n base (base + i)

  pub fit_none : j ≡ base → FitTo apart n base j
  fit_none e = let none : j - base ≡ 0 = omega arith in rw none (all_none p)

  at_place : base ≤ j → (b : Bool) → eight_fit apart n base j ≡ b → p (j - base) ≡ b
  at_place lo b e = let place : base + (j - base) ≡ j = omega arith in rw place e

  pub fit_turn : base ≤ j → FitTo apart n base j → eight_fit apart n base j ≡ true → FitTo apart n base (j + 1)
  fit_turn lo all e =
      let next : j + 1 - base ≡ j - base + 1 = omega arith in
      rw next (all_turn p (j - base) all (at_place lo true e))

  pub fit-not : base ≤ j → j < n → eight_fit apart n base j ≡ false → false ≡ block_fit apart n base
  unfolding block_fit
  fit-not lo below e = sym (all-not p (n - base) (j - base) (omega arith) (at_place lo false e))

  pub fit-end : j ≤ n → n ≤ j → FitTo apart n base j → true ≡ block_fit apart n base
  unfolding block_fit
  fit-end lo hi all = let same : n - base ≡ j - base = omega arith in rw same (sym all)

-- the pairs of a block
pub block-clear : (lanes : List Float) (dimension n base : ℕ) → block_fit (nodes_apart lanes dimension) n base ≡ true → Clear (nodes_apart lanes dimension) n base (base + 8) n
unfolding block_fit eight_fit
block-clear lanes dimension n base all i j lo hi l m =
    let apart = nodes_apart lanes dimension in
    let t = i - base in
    let node : base + t ≡ i = omega arith in
    let node' : base + (j - base) ≡ j = omega arith in
    let row : eight_fit apart n base (base + (j - base)) ≡ true = all-at (λ (k : ℕ). eight_fit apart n base (base + k)) (n - base) (j - base) all (omega arith) in
    let one : not (unfit (apart (base + (j - base)) (held n (base + t)))) ≡ true = all-at (λ (u : ℕ). not (unfit (apart (base + (j - base)) (held n (base + u))))) 8 t row (omega arith) in
    let there : held n (base + t) ≡ i = held_below n (base + t) (omega arith) ∙ node in
    ap unfit (apart-symmetric lanes dimension i j)
    ∙ ap (λ (v : ℕ). unfit (apart v i)) (sym node') ∙ ap (λ (v : ℕ). unfit (apart (base + (j - base)) v)) (sym there)
    ∙ not-true (unfit (apart (base + (j - base)) (held n (base + t)))) one

module _ (apart : ℕ → ℕ → Distance) (n : ℕ) where
  -- one more block
  pub clear_join : (base : ℕ) → Clear apart n 0 base n → Clear apart n base (base + 8) n → Clear apart n 0 (base + 8) n
  clear_join base low high i j lo hi l m = at (ltb i base) refl
    where
      at : (b : Bool) → ltb i base ≡ b → unfit (apart i j) ≡ false
      at true e = low i j lo (ltb-true i base e) l m
      at false e = high i j (ltb-false i base e) hi l m

  none_unfit : (base : ℕ) → n ≤ base → Clear apart n 0 base n → n ≤ first_unfit apart n
  unfolding first_unfit unfit_after
  none_unfit base h all = at (ltb (first_unfit apart n) n) refl
    where
      at : (b : Bool) → ltb (first_unfit apart n) n ≡ b → n ≤ first_unfit apart n
      at true e =
          let i = first_unfit apart n in
          let j = unfit_after apart n i in
          let l = ltb-true i n e in
          let m = ltb-true j n (first_holds (λ (i : ℕ). ltb (unfit_after apart n i) n) 0 n (omega arith)) in
          let behind = first-from (λ (j : ℕ). unfit (apart i j)) (suc i) (n - suc i) in
          let bad = first_holds (λ (j : ℕ). unfit (apart i j)) (suc i) (n - suc i) (omega arith) in
          absurd (subst T (sym bad ∙ all i j (omega arith) (omega arith) behind m) tt)
      at false e = ltb-false (first_unfit apart n) n e

  pub all-clear : (base : ℕ) → n ≤ base → Clear apart n 0 base n → decide (row10 apart n ∷ []) ≡ passed
  all-clear base h all = passes apart n (none_unfit base h all)
