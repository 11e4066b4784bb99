-- What the tests of the table lean on. Assumes nothing.
use mathlib.Core.Path.{◌≡◌, refl}
use mathlib.Core.Bool.{true, false}
use mathlib.Core.List.{List, [], ◌∷◌}
use Prim.Native.Nat.{ℕ, ◌*◌, ◌≤◌, ◌<◌}
use native.Mathlib.Nat.{mul-le-mul}
use native.Mathlib.Omega.{arith}
use borrow.Author.Tests.{le-leb, lt-leb, eq-eqb, ne_eqb, lt-ltb, le-ltb}
use lib.Dec.{eqb}
use lib.ListN.{length, take, get_or}
use Rattle.std.specs.List.{list_any}
use Rattle.std.proofs.lemmas.Bool.Decides.{nat_tests}
use Rattle.rules.specs.Loops.{has}
use Rattle.rules.specs.Numbers.{outside}
use Rattle.rules.specs.Refusals.{Row, code, decide, refused, passed, row1, row2, row3, row7, bad_root, first_bad_root}
use Rattle.rules.proofs.Tables.{within}

-- ---- a number among others

pub has_is : (v : ℕ) (xs : List ℕ) → list_any (λ y. eqb y v) xs ≡ has v xs
unfolding has
has_is v [] = refl
has_is v (x ∷ xs) = let same : eqb x v ≡ eqb v x = grind (arith, nat_tests) in rw (same, has_is v xs)

-- ---- a root that is n or more, or repeats an earlier one

pub bad_high : (n : ℕ) (roots : List ℕ) (i : ℕ) → n ≤ get_or roots i 0 → bad_root n roots i ≡ true
unfolding bad_root
bad_high n roots i h = rw (le-leb n (get_or roots i 0) h)

pub bad_is : (n : ℕ) (roots : List ℕ) (i : ℕ) → get_or roots i 0 < n → bad_root n roots i ≡ has (get_or roots i 0) (take i roots)
unfolding bad_root
bad_is n roots i h = rw (lt-leb n (get_or roots i 0) h)

-- ---- products of a game's numbers

pub lanes_fit : (n dimension most : ℕ) → most ≤ 4096 → outside 2 most n ≡ false → outside 1 64 dimension ≡ false → n * dimension ≤ 262144
lanes_fit n dimension most m h k =
    let a = (within 2 most n h).to in
    let p : n * dimension ≤ 4096 * 64 = mul-le-mul (let l : n ≤ 4096 = omega arith in l) (within 1 64 dimension k).to in
    omega arith

-- ---- row 7

pub few-roots : (n : ℕ) (roots : List ℕ) → outside 1 64 (length roots) ≡ true → decide (row7 n roots ∷ []) ≡ refused (code 7 0 0)
unfolding row7 decide
few-roots n roots e = rw e

pub bad_root_lem : (n : ℕ) (roots : List ℕ) (at : ℕ) → outside 1 64 (length roots) ≡ false → at ≡ first_bad_root n roots → at < length roots → decide (row7 n roots ∷ []) ≡ refused (code 7 at 0)
unfolding row7 decide
bad_root_lem n roots at e f h = rw (e, ← f, lt-ltb at (length roots) h)

pub good_roots : (n : ℕ) (roots : List ℕ) → outside 1 64 (length roots) ≡ false → length roots ≤ first_bad_root n roots → decide (row7 n roots ∷ []) ≡ passed
unfolding row7 decide
good_roots n roots e g = rw (e, le-ltb (first_bad_root n roots) (length roots) g)

-- ---- rows 1, 2 and 3

module _ (dimension most n lanes : ℕ) where
  abbrev game_rows : List Row
  game_rows = row1 dimension ∷ row2 most n ∷ row3 dimension n lanes ∷ []

  pub game-dimension : outside 1 64 dimension ≡ true → decide game_rows ≡ refused (code 1 0 0)
  unfolding decide row1
  game-dimension e = rw e

  pub game-nodes : outside 1 64 dimension ≡ false → outside 2 most n ≡ true → decide game_rows ≡ refused (code 2 0 0)
  unfolding decide row1 row2
  game-nodes e f = rw (e, f)

  pub game-lanes : outside 1 64 dimension ≡ false → outside 2 most n ≡ false → (lanes ≡ n * dimension → ⊥) → decide game_rows ≡ refused (code 3 0 0)
  unfolding decide row1 row2 row3
  game-lanes e f g = rw (e, f, ne_eqb lanes (n * dimension) g)

  pub game-passed : outside 1 64 dimension ≡ false → outside 2 most n ≡ false → lanes ≡ n * dimension → decide game_rows ≡ passed
  unfolding decide row1 row2 row3
  game-passed e f g = rw (e, f, eq-eqb lanes (n * dimension) g)
