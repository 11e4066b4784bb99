-- The numbers and floats that a case's words are, and its runs. Assumes nothing.
use Rattle.std.specs.Prelude.{ℕ, cond, List, ◌++◌, map, length, drop, ◌==◌, Float}
use Rattle.std.specs.Float.{nan}
use Rattle.cases.specs.declared.Cursor.{Cursor}
use Rattle.cases.specs.declared.Read.{Read}
use Rattle.cases.specs.Text.{size_at, words_at, behind, float_of}

-- The largest word stands for the largest number.
unfoldable pub wide_of : ℕ → ℕ
wide_of word = cond (word == 0xFFFFFFFF) 0xFFFFFFFFFFFFFFFF word

-- The float of some bits, where the one NaN of the cases is a NaN
unfoldable pub bits_of : ℕ → Float
bits_of bits = cond (bits == 0x7FC00000) nan (float_of bits)

-- The next n numbers as the bits of floats
unfoldable pub lanes_at : ℕ → List ℕ → Cursor → List Float
lanes_at n text c = map bits_of (words_at n text c)

-- A run after its length, which is at most `most`: how many, and the place behind
unfoldable pub run_at : ℕ → List ℕ → Cursor → Read ℕ
run_at most text c = let s = size_at most text c in record { value = s.value; cursor = behind s.value text s.cursor }

-- The slice whose first places the run is read to, `listed` as words or as floats
unfoldable pub run_in : {A : Type 0} → (ℕ → List ℕ → Cursor → List A) → List ℕ → Cursor → List A → List A
run_in listed text c out = let s = size_at (length out) text c in listed s.value text s.cursor ++ drop s.value out
