-- The sets of jobs: those of square I, and those that are drawn. Assumes nothing.
use Rattle.std.specs.Prelude.{ℕ, ◌+◌, ◌%◌, ◌^◌, List, [], ◌∷◌, from_bits, Float}
use Rattle.std.specs.Float.{binary32}
use Rattle.relay_orders.specs.declared.sets.Game.{Game}

-- "Lanes 0, 1, 3, 7"
abbrev pub lanes_of_square : List Float
lanes_of_square = from_bits binary32 0 ∷ from_bits binary32 0x3F800000 ∷ from_bits binary32 0x40400000 ∷ from_bits binary32 0x40E00000 ∷ []

-- "jobs (0,1), (0,3), (0,2)"
abbrev pub jobs_of_square : List ℕ
jobs_of_square = 0 ∷ 1 ∷ 0 ∷ 3 ∷ 0 ∷ 2 ∷ []

-- Six nodes with lists as long as the game's number, and three seeds, one behind the other
unfoldable pub drawn_game : ℕ → Game
drawn_game number =
    record {
      n = 6;
      k = number;
      lanes = (number + 20261100) % 2 ^ 32;
      first = (number + 20261101) % 2 ^ 32;
      further = (number + 20261102) % 2 ^ 32;
    }
