-- The text of a game as games/README.md gives it: where lines and words end, and the decimals among them. Assumes nothing.
use Rattle.std.specs.Prelude.{ℕ, zero, suc, ◌+◌, ◌-◌, ◌*◌, Bool, true, false, cond, not, ◌&&◌, ◌||◌, List, [], ◌∷◌, length, drop, codes, pos, ◌==◌, nat_le, slice_index, slice_range, Float}
use Rattle.std.specs.Char.{is_ascii_digit}
use Rattle.std.specs.Str.{bytes_eq}
use Rattle.std.specs.Float.{binary32, nan}
use Rattle.std.specs.Float.Ieee.{neg, div, of_int}
use Rattle.lines.specs.declared.Part.{Part}
use Rattle.lines.specs.declared.Part.TheVariants.{Line, Words, OneWord, Blanks}
use Rattle.lines.specs.declared.Shape.{Shape}
use Rattle.lines.specs.declared.Shape.TheVariants.{Empty, Whole, Minus, Signed, Point, OnePlace, TwoPlaces, ThreePlaces, Bad}
use Rattle.lines.specs.declared.Word.{Word}

-- A space, a tab or a carriage return
unfoldable pub is_blank : ℕ → Bool
is_blank b = b == 32 || (b == 9 || b == 13)

-- Whether a byte ends a line, or the words of a line, or a word, or some blanks. "`#` starts a comment. Words are parted by blanks."
unfoldable pub stops : ℕ → Part → Bool
stops b Line = b == 10
stops b Words = b == 10 || b == 35
stops b OneWord = b == 10 || b == 35 || is_blank b
stops b Blanks = not (is_blank b)

-- The place of the first such byte, or behind the last; the second argument is the bytes from that place on.
unfoldable pub end_of : Part → List ℕ → ℕ → ℕ
end_of part [] at = at
end_of part (b ∷ bs) at = cond (stops b part) at (end_of part bs (suc at))

abbrev pub end_from : Part → List ℕ → ℕ → ℕ
end_from part text at = end_of part (drop at text) at

-- The most that the digits of a decimal may say before one more; with it they stay below 2^24, which binary32 holds.
abbrev pub most_digits : ℕ
most_digits = 1600000

-- The digits of a word as one number, whatever else stands among them
unfoldable pub digits_with : ℕ → ℕ → ℕ
digits_with digits b = cond (nat_le digits most_digits && is_ascii_digit b) (digits * 10 + (b - 48)) digits

-- A digit more: at most three stand behind the point.
unfoldable pub shape_with_digit : Shape → Shape
shape_with_digit Empty = Whole
shape_with_digit Whole = Whole
shape_with_digit Minus = Signed
shape_with_digit Signed = Signed
shape_with_digit Point = OnePlace
shape_with_digit OnePlace = TwoPlaces
shape_with_digit TwoPlaces = ThreePlaces
shape_with_digit ThreePlaces = Bad
shape_with_digit Bad = Bad

-- A minus stands first.
unfoldable pub shape_with_minus : Shape → Shape
shape_with_minus Empty = Minus
shape_with_minus _ = Bad

-- A point stands behind digits, and there is one at most.
unfoldable pub shape_with_point : Shape → Shape
shape_with_point Whole = Point
shape_with_point Signed = Point
shape_with_point _ = Bad

-- "A lane is a decimal of at most three places behind the point and seven digits or so"
unfoldable pub shape_with : Shape → ℕ → ℕ → Shape
shape_with shape digits b =
    cond (is_ascii_digit b) (cond (nat_le digits most_digits) (shape_with_digit shape) Bad)
    (cond (b == 45) (shape_with_minus shape) (cond (b == 46) (shape_with_point shape) Bad))

abbrev pub empty_at : ℕ → Word
empty_at at = record { start = at; end = at; shape = Empty; digits = 0 }

abbrev pub with_byte : Word → ℕ → Word
with_byte w b =
    record { start = w.start; end = suc w.end; shape = shape_with w.shape w.digits b; digits = digits_with w.digits b }

-- A word with the bytes that stand behind it up to its end
unfoldable pub word_of : Word → List ℕ → Word
word_of w [] = w
word_of w (b ∷ bs) = cond (stops b OneWord) w (word_of (with_byte w b) bs)

-- The next word of a line: behind blanks, and empty where the line has no more
unfoldable pub word_at : List ℕ → ℕ → Word
word_at text from = let start = end_from Blanks text from in word_of (empty_at start) (drop start text)

-- How many words a line has from a place on; the first argument is the most that are counted.
unfoldable pub words_from : ℕ → List ℕ → ℕ → ℕ
words_from zero text at = 0
words_from (suc most) text at =
    let w = word_at text at in
    cond (w.start == w.end) 0 (suc (words_from most text w.end))

-- The bytes of a word, and none where it is of no place of the text
unfoldable pub spelt : List ℕ → Word → List ℕ
spelt text w = cond (nat_le w.start w.end && nat_le w.end (length text)) (slice_range text w.start w.end) []

abbrev pub is_nan : List ℕ → Word → Bool
is_nan text w = bytes_eq (spelt text w) (codes "nan")

-- Digits behind a minus or none, and some behind a point where there is one
unfoldable pub is_decimal : Shape → Bool
is_decimal Empty = false
is_decimal Minus = false
is_decimal Point = false
is_decimal Bad = false
is_decimal _ = true

unfoldable pub is_number : List ℕ → Word → Bool
is_number text w = is_nan text w || is_decimal w.shape

-- 10 to the number of places behind the point
unfoldable pub scale_of : Shape → ℕ
scale_of OnePlace = 10
scale_of TwoPlaces = 100
scale_of ThreePlaces = 1000
scale_of _ = 1

-- "or `nan`; it becomes the nearest binary32 number": the digits over the scale, both exact, rounded once, and negated behind a minus
unfoldable pub value_of : List ℕ → Word → Float
value_of text w =
    let x = div binary32 (of_int binary32 (pos w.digits)) (of_int binary32 (pos (scale_of w.shape))) in
    cond (is_nan text w) nan (cond (slice_index text w.start == 45) (neg x) x)
