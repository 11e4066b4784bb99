-- What lent places hold before a call, and whether it stands after it. Assumes nothing.
use Rattle.std.specs.Prelude.{ℕ, zero, suc, ◌+◌, ◌%◌, ◌^◌, Bool, true, false, cond, List, [], ◌∷◌, nat_eq, from_bits, nat_lt, Float}
use Rattle.std.specs.Float.{binary32}
use Rattle.std.specs.Float.Ieee.{add, eq}
use Rattle.replays.specs.Compare.{holds_only, all_zero}
use Rattle.refusals.specs.declared.Left.{Left}
use Rattle.refusals.specs.declared.Left.TheVariants.{Untouched, Zeroed, Written}

module _ {A : Type 0} (next : A → A) where
  -- v, and in each further place the next
  unfoldable pub rising : A → ℕ → List A
  rising v zero = []
  rising v (suc n) = v ∷ rising (next v) n

  -- whether each place from the one numbered `from` on holds what `rising` gives it; i is the number of the first, and v its own
  unfoldable pub stands : (A → A → Bool) → ℕ → ℕ → A → List A → Bool
  stands same from i v [] = true
  stands same from i v (x ∷ xs) =
      let rest = stands same from (suc i) (next v) xs in
      cond (nat_lt i from) rest (cond (same x v) rest false)

abbrev pub next_word : ℕ → ℕ
next_word v = (v + 1) % 2 ^ 32

abbrev pub next_float : Float → Float
next_float v = add binary32 v (from_bits binary32 0x3F800000)

abbrev pub words_stand : ℕ → ℕ → ℕ → List ℕ → Bool
words_stand from i v xs = stands next_word nat_eq from i v xs

abbrev pub floats_stand : ℕ → Float → List Float → Bool
floats_stand i v xs = stands next_float eq 0 i v xs

-- What the first place of each scratch slice holds: the float is 1.5
abbrev pub junk_word : ℕ
junk_word = 0xEF000000

abbrev pub junk_float : Float
junk_float = from_bits binary32 0x3FC00000

-- Whether both scratch slices hold what they were filled with
unfoldable pub scratch_stands : List ℕ → List Float → Bool
scratch_stands words floats = cond (words_stand 0 0 junk_word words) (floats_stand 0 junk_float floats) false

-- .. or zero in every place
unfoldable pub scratch_zero : List ℕ → List Float → Bool
scratch_zero words floats = cond (holds_only 0 words) (all_zero floats) false

unfoldable pub left_of : List ℕ → List Float → Left
left_of words floats = cond (scratch_stands words floats) Untouched (cond (scratch_zero words floats) Zeroed Written)
