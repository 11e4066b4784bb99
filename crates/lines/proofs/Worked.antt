-- Small texts, worked by computation. Assumes nothing.
use Rattle.std.proofs.Common.{◌≡◌, ℕ, Bool, true, false, List, [], ◌∷◌, refl}
use lib.Ieee.{Float, binary32, of_bits, nan, neg, div, of_int}
use Rattle.lines.specs.Words.{is_blank, stops, end_of, digits_with, shape_with_digit, shape_with_minus, shape_with_point, shape_with, word_of, word_at, words_from, spelt, is_decimal, is_number, scale_of, value_of}

abbrev value : List ℕ → Float
value text = value_of text (word_at text 0)

abbrev number : List ℕ → Bool
number text = is_number text (word_at text 0)

-- -12.5, 0.1 as the nearest binary32 number, and nan
values :
    (value (45 ∷ 49 ∷ 50 ∷ 46 ∷ 53 ∷ []) ≡ of_bits binary32 0xC1480000) × (value (48 ∷ 46 ∷ 49 ∷ []) ≡ of_bits binary32 0x3DCCCCCD)
    × (value (110 ∷ 97 ∷ 110 ∷ []) ≡ nan)
unfolding is_blank stops end_of digits_with shape_with_digit shape_with_minus shape_with_point shape_with word_of word_at spelt scale_of value_of div of_int neg of_bits
values = (refl, refl, refl)

-- 7, .5, 3,4, 1.2345 and --1: the first alone is a number.
numbers :
    (number (55 ∷ []) ≡ true) × (number (46 ∷ 53 ∷ []) ≡ false) × (number (51 ∷ 44 ∷ 52 ∷ []) ≡ false)
    × (number (49 ∷ 46 ∷ 50 ∷ 51 ∷ 52 ∷ 53 ∷ []) ≡ false) × (number (45 ∷ 45 ∷ 49 ∷ []) ≡ false)
unfolding is_blank stops end_of digits_with shape_with_digit shape_with_minus shape_with_point shape_with word_of word_at spelt is_decimal is_number
numbers = (refl, refl, refl, refl, refl)

-- "ab 7 # 9", a line end and "8": two words, and the comment ends them.
words : words_from 1024 (97 ∷ 98 ∷ 32 ∷ 55 ∷ 32 ∷ 35 ∷ 32 ∷ 57 ∷ 10 ∷ 56 ∷ []) 0 ≡ 2
unfolding is_blank stops end_of digits_with shape_with_digit shape_with_minus shape_with_point shape_with word_of word_at words_from
words = refl
