-- The text of the oracle's lists, as its README gives it: bytes, and the numbers that they are. Assumes nothing.
use Rattle.std.specs.Prelude.{◌≡◌, ◌<◌, ℕ, zero, suc, ◌+◌, ◌-◌, ◌*◌, ◌%◌, ◌^◌, Bool, cond, ◌&&◌, ◌||◌, List, [], ◌∷◌, length, drop, map, ◌==◌, from_bits, nat_le, nat_lt, Float, Option, Some, None, is_some}
use Rattle.std.specs.Option.{option_or}
use Rattle.std.specs.Float.{binary32}
use Rattle.cases.specs.declared.Mode.{Mode}
use Rattle.cases.specs.declared.Mode.TheVariants.{Between, Comment}
use Rattle.cases.specs.declared.Fault.{Fault}
use Rattle.cases.specs.declared.Fault.TheVariants.{Ended, TooLarge as Large, Strange as Odd, Unexpected}
use Rattle.cases.specs.declared.Cursor.{Cursor}
use Rattle.cases.specs.declared.Digits.{Digits}
use Rattle.cases.specs.declared.Token.{Token}
use Rattle.cases.specs.declared.Read.{Read}
use Rattle.cases.specs.declared.Token.TheVariants.{Number, End, TooLarge, Strange}

unfoldable pub within : ℕ → ℕ → ℕ → Bool
within low high b = nat_le low b && nat_le b high

-- "A word of letters, `_` and `-` is a label for a reader and separates numbers." White space: 9 to 13 and 32.
unfoldable pub separates : ℕ → Bool
separates b =
    within 97 122 b || (within 65 90 b || (b == 95 || (b == 45 || (b == 32 || within 9 13 b))))

-- Where a text stands behind a byte: between two numbers, or in a comment; and nowhere where the byte is neither a separator nor in a comment.
-- "`#` starts a comment that runs to the end of its line."
unfoldable pub after : Mode → ℕ → Option Mode
after Comment b = Some (cond (b == 10) Between Comment)
after Between b = cond (b == 35) (Some Comment) (cond (separates b) (Some Between) None)

-- The place of the first such byte, or of the end; the second argument is the bytes from that place on.
unfoldable pub skipped : Mode → List ℕ → ℕ → ℕ
skipped mode [] at = at
skipped mode (b ∷ bs) at = elim (after mode b) [ None ↦ at | Some next ↦ skipped next bs (suc at) ]

-- The digit that a byte is
unfoldable pub digit_of : ℕ → Option ℕ
digit_of b = cond (within 48 57 b) (Some (b - 48)) None

abbrev pub limit : ℕ
limit = 4294967296

-- The value of the digits that stand first, and the place behind them. A value that has reached the limit is read no further.
unfoldable pub digits_of : ℕ → List ℕ → ℕ → Digits
digits_of value [] at = record { value = value; at = at }
digits_of value (b ∷ bs) at =
    elim (digit_of b) [
      | None ↦ record { value = value; at = at }
      | Some digit ↦ cond (nat_le limit value) (record { value = value; at = at }) (digits_of (value * 10 + digit) bs (suc at))
    ]

-- A number counted, and added to the sum
unfoldable pub counted : Cursor → Digits → Cursor
counted c d =
    record { at = d.at; count = (c.count + 1) % 2 ^ 32; sum = (c.sum + d.value) % 2 ^ 32; fault = c.fault }

unfoldable pub ended : Cursor → ℕ → Cursor
ended c at = record { at = at; count = c.count; sum = c.sum; fault = c.fault }

-- "Every number is an unsigned decimal below 4,294,967,296."
unfoldable pub token_of : ℕ → Cursor → ℕ → Digits → Token
token_of long c start d =
    cond (nat_le long start) (End (ended c start))
    (cond (d.at == start) (Strange start)
    (cond (nat_le limit d.value) (TooLarge start) (Number d.value (counted c d))))

unfoldable pub token_from : List ℕ → Cursor → ℕ → Token
token_from text c start = token_of (length text) c start (digits_of 0 (drop start text) start)

-- What stands next in the text
unfoldable pub token_at : List ℕ → Cursor → Token
token_at text c = token_from text c (skipped Between (drop c.at text) c.at)

-- A whole text: its numbers, and the token behind them (`End` where it is a list, with their count and sum)
pub record Numbers : Type 0 where
  pub numbers : List ℕ
  pub end : Token

unfoldable pub preceded : ℕ → Numbers → Numbers
preceded x s = record { numbers = x ∷ s.numbers; end = s.end }

unfoldable pub continued : Token → (Cursor → Numbers) → Numbers
continued (Number x c) rest = preceded x (rest c)
continued (End c) rest = record { numbers = []; end = End c }
continued (TooLarge at) rest = record { numbers = []; end = TooLarge at }
continued (Strange at) rest = record { numbers = []; end = Strange at }

unfoldable pub numbers_from : ℕ → List ℕ → Token → Numbers
numbers_from zero text t = record { numbers = []; end = t }
numbers_from (suc turns) text t = continued t (λ (c : Cursor). numbers_from turns text (token_at text c))

abbrev pub first : Cursor
first = record { at = 0; count = 0; sum = 0; fault = None }

-- Each number takes a byte at least, and the end a turn, so the turns suffice.
unfoldable pub numbers_in : List ℕ → Numbers
numbers_in text = numbers_from (suc (length text)) text (token_at text first)

-- The number of what went wrong, and 0 where nothing did: 1 the end, 2 a number that is too large, 3 a byte of no list, 4 a number that the format does not allow
unfoldable pub fault_number : Option Fault → ℕ
fault_number None = 0
fault_number (Some Ended) = 1
fault_number (Some Large) = 2
fault_number (Some Odd) = 3
fault_number (Some Unexpected) = 4

-- What went wrong first is kept.
unfoldable pub faulted : Cursor → Fault → Cursor
faulted c fault = record { at = c.at; count = c.count; sum = c.sum; fault = option_or c.fault (Some fault) }

unfoldable pub word_of : Cursor → Token → Read ℕ
word_of c (Number x next) = record { value = x; cursor = next }
word_of c (End _) = record { value = 0; cursor = faulted c Ended }
word_of c (TooLarge _) = record { value = 0; cursor = faulted c Large }
word_of c (Strange _) = record { value = 0; cursor = faulted c Odd }

-- The next number, and 0 where there is none or something went wrong before
unfoldable pub word_at : List ℕ → Cursor → Read ℕ
word_at text c = cond (is_some c.fault) (record { value = 0; cursor = c }) (word_of c (token_at text c))

unfoldable pub size_of : ℕ → Read ℕ → Read ℕ
size_of most w =
    cond (nat_le w.value most) (record { value = w.value; cursor = w.cursor }) (record { value = 0; cursor = faulted w.cursor Unexpected })

-- The next number as a length of at most `most`; a larger one is a fault, and 0.
unfoldable pub size_at : ℕ → List ℕ → Cursor → Read ℕ
size_at most text c = size_of most (word_at text c)

-- The product of two lengths, and 0 where one of them is over 65,536
unfoldable pub area_of : ℕ → ℕ → ℕ
area_of a b = cond (nat_le a 65536 && nat_le b 65536) (a * b) 0

-- The next n numbers, and the place behind them
unfoldable pub words_at : ℕ → List ℕ → Cursor → List ℕ
words_at zero text c = []
words_at (suc n) text c = let w = word_at text c in w.value ∷ words_at n text w.cursor

unfoldable pub behind : ℕ → List ℕ → Cursor → Cursor
behind zero text c = c
behind (suc n) text c = behind n text (word_at text c).cursor

-- The float of some bits, and 0.0 where they are a NaN's: above those of an infinity, but for the sign
unfoldable pub float_of : ℕ → Float
float_of bits = from_bits binary32 (cond (nat_lt 0x7F800000 (bits % 0x80000000)) 0 bits)

-- The next n numbers as the bits of floats
unfoldable pub floats_at : ℕ → List ℕ → Cursor → List Float
floats_at n text c = map float_of (words_at n text c)

-- What is given for a word is what `made` says.
abbrev pub Gives : {A : Type 0} → (ℕ → A → Type 0) → (ℕ → A) → Type 0
Gives {A} Post made = (x : ℕ) (r : A) → x < 2 ^ 32 → Post x r → r ≡ made x
