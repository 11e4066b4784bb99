-- Which files are read, as games/README.md says. Assumes nothing.
use Rattle.std.specs.Prelude.{ℕ, Bool, cond, ◌&&◌, List, length, ◌==◌, nat_lt, slice_index}

-- "without arguments it reads standard input": argument 0, the program's own name, stands for that.
unfoldable pub first_of : ℕ → ℕ
first_of count = cond (nat_lt count 2) 0 1

-- "`-` is standard input"
unfoldable pub is_dash : List ℕ → Bool
is_dash name = length name == 1 && slice_index name 0 == 45
