-- Bytes on a lent page, and a number's digits. Assumes nothing.
use Rattle.std.specs.Prelude.{◌≡◌, cond, List, [], ◌∷◌, ◌++◌, ℕ, zero, suc, ◌+◌, ◌/◌, ◌%◌, min, ltb, length}
use Prim.Native.Char.{code}
use Prim.Native.String.{String, [] as nothing, ◌∷◌ as ◌then◌}

-- A text in ASCII
unfoldable pub bytes : String → List ℕ
bytes nothing = []
bytes (c then s) = code c ∷ bytes s

-- The decimal digits of a number, at most so many, with no zeros in front
unfoldable pub decimal_in : ℕ → ℕ → List ℕ
decimal_in zero n = []
decimal_in (suc most) n = cond (ltb n 10) ((48 + n) ∷ []) (decimal_in most (n / 10) ++ ((48 + n % 10) ∷ []))

-- Twenty digits hold every u64.
abbrev pub decimal : ℕ → List ℕ
decimal n = decimal_in 20 n

-- A number behind a text
abbrev pub labelled : List ℕ → ℕ → List ℕ
labelled label n = label ++ decimal n

-- A page with a text over what it holds from a place on, as far as it has room
unfoldable pub written_over : ℕ → List ℕ → List ℕ → List ℕ
written_over at text [] = []
written_over zero [] (x ∷ xs) = x ∷ xs
written_over zero (b ∷ bs) (x ∷ xs) = b ∷ written_over zero bs xs
written_over (suc at) text (x ∷ xs) = x ∷ written_over at text xs

-- A text was put on a page from a place on: what is answered is the place behind it, or behind the page.
pub record Puts (at : ℕ) (text page : List ℕ) (answer : ℕ) (left : List ℕ) : Type 0 where
  pub place : answer ≡ min (at + length text) (length page)
  pub written : left ≡ written_over at text page
