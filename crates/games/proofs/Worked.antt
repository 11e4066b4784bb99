-- Small files, worked by computation. Assumes nothing.
use Rattle.std.proofs.Common.{◌≡◌, [], ◌∷◌, ◌++◌, replicate, codes, Ok, Err, refl}
use lib.Ieee.{binary32, of_bits, nan, div, of_int}
use Rattle.cases.specs.Text.{area_of}
use Rattle.params.specs.Params.{defaults}
use Rattle.lines.specs.Words.{is_blank, stops, end_of, digits_with, shape_with_digit, shape_with_minus, shape_with_point, shape_with, word_of, word_at, words_from, spelt, is_decimal, is_number, scale_of, value_of}
use Rattle.games.specs.declared.Fault.TheVariants.{More, Lanes}
use Rattle.games.specs.Games.{nothing, game, wrong, filled, whole_of, number_of, ended, lanes_line, names_line, roots_line, keyword_of, said, with_counter, read, point_line, line_read, lines_read, file_read}

-- The names stand at 24 and 36, the lane's at 6.
small :
    file_read (codes "lanes a\nroots 0\ncounter x 1.5\nquery y nan\n") (replicate 70 0) (of_bits binary32 0 ∷ of_bits binary32 0 ∷ [])
    ≡ read (Ok (game 1 1 1 1 1 defaults 6 5 42)) (replicate 68 0 ++ 24 ∷ 36 ∷ []) (of_bits binary32 0x3FC00000 ∷ nan ∷ [])
unfolding is_blank stops end_of digits_with shape_with_digit shape_with_minus shape_with_point shape_with word_of word_at words_from spelt is_decimal is_number scale_of value_of filled whole_of number_of ended lanes_line roots_line keyword_of said with_counter point_line line_read lines_read area_of of_bits of_int div
small = refl

-- The lanes are not named before.
early : file_read (codes "counter x 1") [] [] ≡ read (Err (wrong nothing 7 Lanes)) [] []
unfolding is_blank stops end_of digits_with shape_with_digit shape_with_minus shape_with_point shape_with word_of word_at spelt keyword_of said point_line line_read lines_read
early = refl

-- A word is left over: the number in front of it is said.
more :
    file_read (codes "names 3 4") (replicate 68 0) []
    ≡ read (Err (wrong (game 0 0 0 0 3 defaults 0 1 0) 8 More)) (replicate 67 0 ++ 3 ∷ []) []
unfolding is_blank stops end_of digits_with shape_with_digit shape_with_minus shape_with_point shape_with word_of word_at spelt filled whole_of ended names_line keyword_of said line_read lines_read
more = refl
