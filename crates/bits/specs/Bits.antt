-- A list of words with one bit set, or cleared: only the word that holds it changes. Assumes nothing.
use Rattle.std.specs.Prelude.{List, ℕ, ◌/◌, ◌%◌, ◌^◌, ◌<◌, get_or, set}
use Rattle.std.specs.Int.Bits.{bit_or, bit_xor}

-- the word with its bit k set
unfoldable pub with_bit : ℕ → ℕ → ℕ
with_bit k w = bit_or w (2 ^ k)

unfoldable pub set_bit : ℕ → List ℕ → List ℕ
set_bit p us = set us (p / 32) (with_bit (p % 32) (get_or us (p / 32) 0))

-- the word with its bit k cleared: set, and then turned over
unfoldable pub without_bit : ℕ → ℕ → ℕ
without_bit k w = bit_xor (with_bit k w) (2 ^ k)

unfoldable pub clear_bit : ℕ → List ℕ → List ℕ
clear_bit p us = set us (p / 32) (without_bit (p % 32) (get_or us (p / 32) 0))

-- each word is one of u32; behind the last, 0 is read
abbrev pub Words : List ℕ → Type 0
Words us = (q : ℕ) → get_or us q 0 < 2 ^ 32
