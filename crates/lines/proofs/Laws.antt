-- One turn and the end of each loop over the text of a game. Assumes nothing.
use Rattle.std.proofs.Common.{◌≡◌, ℕ, suc, ◌+◌, ◌-◌, ◌<◌, ◌≤◌, true, false, List, length, get_or, drop, pos, refl, add-one, arith, drop_of_length-le, drop-cons, eq-eqb, ne_eqb}
use lib.Ieee.{binary32, of_bits, of_int}
use Rattle.lines.specs.declared.Part.{Part}
use Rattle.lines.specs.declared.Part.TheVariants.{OneWord, Blanks}
use Rattle.lines.specs.declared.Shape.{Shape}
use Rattle.lines.specs.declared.Word.{Word}
use Rattle.lines.specs.Words.{stops, end_of, end_from, shape_with, digits_with, word_of, word_at, words_from, empty_at}

module _ (text : List ℕ) (at : ℕ) where
  module _ (part : Part) where
    pub end-end : length text ≤ at → end_from part text at ≡ at
    unfolding end_of
    end-end h = rw (drop_of_length-le text h)

    pub end_stop : at < length text → stops (get_or text at 0) part ≡ true → end_from part text at ≡ at
    unfolding end_of
    end_stop h stop = rw (drop-cons text at 0 h, stop)

    pub end_turn : at < length text → stops (get_or text at 0) part ≡ false → end_from part text (at + 1) ≡ end_from part text at
    unfolding end_of
    end_turn h on = rw (drop-cons text at 0 h, on, add-one)

  pub word_end : (w : Word) → length text ≤ at → word_of w (drop at text) ≡ w
  unfolding word_of
  word_end w h = rw (drop_of_length-le text h)

  pub word_stop : (w : Word) → at < length text → stops (get_or text at 0) OneWord ≡ true → word_of w (drop at text) ≡ w
  unfolding word_of
  word_stop w h stop = rw (drop-cons text at 0 h, stop)

  pub word_turn :
      (start digits digits' : ℕ) (shape shape' : Shape) → at < length text → stops (get_or text at 0) OneWord ≡ false
      → shape' ≡ shape_with shape digits (get_or text at 0) → digits' ≡ digits_with digits (get_or text at 0)
      → word_of (record { start = start; end = at + 1; shape = shape'; digits = digits' }) (drop (at + 1) text)
      ≡ word_of (record { start = start; end = at; shape = shape; digits = digits }) (drop at text)
  unfolding word_of
  word_turn start digits digits' shape shape' h on a b = rw (drop-cons text at 0 h, on, a, b, add-one)

pub word_start : (text : List ℕ) (from start : ℕ) → start ≡ end_from Blanks text from → word_of (empty_at start) (drop start text) ≡ word_at text from
unfolding word_at
word_start text from start e = rw e

-- `count` words are counted, of `most` at most.
module _ (text : List ℕ) (most count at : ℕ) (w : Word) (e : w ≡ word_at text at) (h : count < most) where
  pub count_none : w.start ≡ w.end → count + words_from (most - count) text at ≡ count
  unfolding words_from
  count_none none =
      let less : most - count ≡ suc (most - (count + 1)) = omega arith in
      rw (less, ← e, eq-eqb w.start w.end none) (omega arith)

  pub count_turn :
      (w.start ≡ w.end → ⊥) → (count + 1) + words_from (most - (count + 1)) text w.end ≡ count + words_from (most - count) text at
  unfolding words_from
  count_turn some =
      let less : most - count ≡ suc (most - (count + 1)) = omega arith in
      rw (less, ← e, ne_eqb w.start w.end some) (omega arith)

pub count_start : (text : List ℕ) (most at : ℕ) → 0 + words_from (most - 0) text at ≡ words_from most text at
count_start text most at =
    let all : most - 0 ≡ most = omega arith in
    rw all (omega arith)

pub count-all : (text : List ℕ) (most count at : ℕ) → most ≤ count → count + words_from (most - count) text at ≡ count
unfolding words_from
count-all text most count at h =
    let none : most - count ≡ 0 = omega arith in
    rw none (omega arith)

-- The literals of `scale` as the whole numbers that they are
pub one_is : of_bits binary32 0x3F800000 ≡ of_int binary32 (pos 1)
unfolding of_bits of_int
one_is = refl

pub ten_is : of_bits binary32 0x41200000 ≡ of_int binary32 (pos 10)
unfolding of_bits of_int
ten_is = refl

pub hundred_is : of_bits binary32 0x42C80000 ≡ of_int binary32 (pos 100)
unfolding of_bits of_int
hundred_is = refl

pub thousand_is : of_bits binary32 0x447A0000 ≡ of_int binary32 (pos 1000)
unfolding of_bits of_int
thousand_is = refl
