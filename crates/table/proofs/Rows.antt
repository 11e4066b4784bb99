-- Rows that a function of its own has judged, in front of others; and what it is that those of the game pass. Assumes nothing.
use mathlib.Core.Path.{◌≡◌, sym, ap, ◌∙◌}
use mathlib.Core.List.{List, [], ◌∷◌, ◌++◌}
use Prim.Native.Nat.{ℕ, ◌+◌, ◌*◌, ◌≤◌}
use native.Mathlib.Nat.{mul-le-mul_right}
use native.Mathlib.Omega.{arith}
use borrow.Author.Tests.{eqb-true, not-false}
use Rattle.std.specs.Prelude.{Ok, Err}
use Rattle.rules.specs.Answers.{Answer}
use Rattle.rules.specs.declared.Refusal.{Refusal}
use Rattle.rules.specs.Refusals.{Row, code_of, decide, decision_of, row1, row2, row3}
use Rattle.rules.proofs.Tables.{all_fail, decide-append, decide-before, within}

module _ (rs qs : List Row) {a : Answer} (e : decision_of a ≡ decide rs) where
  -- they refused: so does the whole table
  pub by_answer : {r : Refusal} → a ≡ Err r → decision_of a ≡ decide (rs ++ qs)
  unfolding decision_of
  by_answer {r} f = ap decision_of f ∙ sym (decide-before rs qs (code_of r) (sym e ∙ ap decision_of f))

  -- they passed: the others decide
  pub past_answer : a ≡ (Ok tt) → decide (rs ++ qs) ≡ decide qs
  unfolding decision_of
  past_answer f = decide-append rs qs (sym e ∙ ap decision_of f)

-- ---- the game

abbrev pub game_rows : ℕ → ℕ → ℕ → ℕ → List Row
game_rows most dimension n lanes = row1 dimension ∷ row2 most n ∷ row3 dimension n lanes ∷ []

pub record Game (most dimension n lanes : ℕ) : Type 0 where
  pub wide : dimension ≤ 64
  pub nodes : n ≤ most
  pub some : 2 ≤ n
  pub long : lanes ≡ n * dimension

pub game : {most dimension n lanes : ℕ} {a : Answer} → decision_of a ≡ decide (game_rows most dimension n lanes) → a ≡ (Ok tt) → Game most dimension n lanes
unfolding decision_of row1 row2 row3
game {most} {dimension} {n} {lanes} e f =
    let F = all_fail (game_rows most dimension n lanes) (sym e ∙ ap decision_of f) in
    record { wide = (within 1 64 dimension F.0).to; nodes = (within 2 most n F.1.0).to; some = (within 2 most n F.1.0).from; long = eqb-true lanes (n * dimension) (not-false _ F.1.1.0) }

-- node 0 has lanes
pub first-room : {most dimension n lanes : ℕ} → Game most dimension n lanes → (0 + 1) * dimension ≤ lanes
first-room {most} {dimension} {n} {lanes} g =
    let long = g.long in
    let least : 1 * dimension ≤ n * dimension = mul-le-mul_right dimension (let s = g.some in let l : 1 ≤ n = omega arith in l) in
    omega arith
