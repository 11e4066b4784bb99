-- The fewest digits that hold a number are its decimal digits. Assumes nothing.
use mathlib.Core.Path.{◌≡◌, ap}
use mathlib.Core.Bool.{Bool, true, false, not}
use mathlib.Core.List.{List, [], ◌∷◌, ◌++◌}
use Prim.Native.Nat.{ℕ, zero, suc, ◌+◌, ◌-◌, ◌/◌, ◌%◌, ◌^◌, ◌≤◌, ◌<◌}
use native.Mathlib.Nat.{one-le-pow, pow-le-pow_right}
use native.Mathlib.Numerals.{unary_clauses}
use native.Mathlib.Omega.{arith}
use lib.Dec.{T, ltb, ltb→lt, nltb→le}
use borrow.Author.Tests.{lt-ltb, le-ltb}
use Rattle.io.specs.Digits.{last_digits, hex_digit_ascii, IsDigitCount}
use Rattle.pages.specs.Page.{decimal_in, decimal}

-- the last digit as a glyph
last : (n : ℕ) → hex_digit_ascii (n % 10) ≡ 48 + n % 10
last n = rw (lt-ltb (n % 10) 10 (omega arith))

fewest_in : (most n k : ℕ) → k ≤ most → IsDigitCount 10 1 n k → last_digits 10 k n ≡ decimal_in most n
unfolding decimal_in
fewest_in most n zero h f = absurd (omega (arith, f.0))
fewest_in zero n (suc k) h f = absurd (omega (arith, h))
fewest_in (suc most) n (suc zero) h f =
    let small : n < 10 = omega (arith, f.1) in
    let same : n % 10 ≡ n = omega arith in
    rw (lt-ltb n 10 small, last n, same)
fewest_in (suc most) n (suc (suc k)) h f =
    let one = one-le-pow k 10 (omega arith) in
    let large = simp unary_clauses at (f.2 (omega arith)) in
    let below = f.1 in
    rw (le-ltb n 10 (omega arith), last n)
    (ap (λ (l : List ℕ). l ++ ((48 + n % 10) ∷ [])) (fewest_in most (n / 10) (suc k) (omega arith) (omega arith, omega arith, λ _. simp unary_clauses (omega arith))))

pub fewest-decimal : {n k : ℕ} → n < 10 ^ 20 → IsDigitCount 10 1 n k → last_digits 10 k n ≡ decimal n
fewest-decimal {n} {k} small f = fewest_in 20 n k (within (ltb 20 k) (ltb→lt 20 k) (nltb→le 20 k)) f
  where
    within : (b : Bool) → (T b → 20 < k) → (T (not b) → k ≤ 20) → k ≤ 20
    within true more most = let h = more tt in absurd (omega (arith, small, f.2 (omega arith), pow-le-pow_right {n = 10} (omega arith) {i = 20} {j = k - 1} (omega arith)))
    within false more most = most tt
