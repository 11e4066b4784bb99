-- What the list of calls says: a call's numbers, and what is changed in its state. Assumes nothing.
use Rattle.std.specs.Prelude.{Bool, false, List, ℕ, zero, suc, ◌*◌, eqb, get_or, set, Float}
use Rattle.rules.specs.Calls.{descent_words, taught_scratch}
use Rattle.cases.specs.declared.Cursor.{Cursor}
use Rattle.cases.specs.declared.Read.{Read}
use Rattle.cases.specs.Text.{word_at, size_at, words_at, behind}
use Rattle.refusals.specs.Given.{wide_of, bits_of}
use Rattle.refusals_descent.specs.declared.call.Call.{Call}

-- A call by its twelve numbers: 1 for a begin, 1 where its state is printed, the dimension, n, k, s, and the lengths of what is lent
unfoldable pub call_of : List ℕ → Call
call_of xs =
    record {
      begins = eqb (get_or xs 0 0) 1;
      shown = eqb (get_or xs 1 0) 1;
      dimension = wide_of (get_or xs 2 0);
      n = wide_of (get_or xs 3 0);
      k = wide_of (get_or xs 4 0);
      s = wide_of (get_or xs 5 0);
      lanes = wide_of (get_or xs 6 0);
      draws = wide_of (get_or xs 7 0);
      state_u = wide_of (get_or xs 8 0);
      state_f = wide_of (get_or xs 9 0);
      words = wide_of (get_or xs 10 0);
      floats = wide_of (get_or xs 11 0);
    }

unfoldable pub call_at : List ℕ → Cursor → Read Call
call_at text c = record { value = call_of (words_at 12 text c); cursor = behind 12 text c }

-- 1,024 nodes in lists of one: a lane and two draws each, and as many places as a call asks for
abbrev pub most_of : Bool → Call
most_of begins =
    record {
      begins = begins;
      shown = false;
      dimension = 1;
      n = 1024;
      k = 1;
      s = 1;
      lanes = 1024;
      draws = 2 * 1024;
      state_u = descent_words 1024 1;
      state_f = 1024;
      words = taught_scratch 1024;
      floats = taught_scratch 1024;
    }

-- `count` words from the place `at` on, as far as there are places
unfoldable pub filled : ℕ → ℕ → ℕ → List ℕ → List ℕ
filled at zero word words = words
filled at (suc count) word words = filled (suc at) count word (set words at word)

module _ (text : List ℕ) where
  -- n changes of words: of each its first place, its length and its word
  unfoldable pub words_changed : ℕ → Cursor → List ℕ → List ℕ
  words_changed zero c words = words
  words_changed (suc n) c words =
      let from = word_at text c in
      let long = word_at text from.cursor in
      let word = word_at text long.cursor in
      words_changed n word.cursor (filled from.value long.value word.value words)

  -- n changes of floats: of each its place and its bits
  unfoldable pub floats_changed : ℕ → Cursor → List Float → List Float
  floats_changed zero c floats = floats
  floats_changed (suc n) c floats =
      let at = word_at text c in
      let bits = word_at text at.cursor in
      floats_changed n bits.cursor (set floats at.value (bits_of bits.value))

  -- Up to eight changes, behind their number
  unfoldable pub words_harmed : Cursor → List ℕ → List ℕ
  words_harmed c words = let s = size_at 8 text c in words_changed s.value s.cursor words

  unfoldable pub floats_harmed : Cursor → List Float → List Float
  floats_harmed c floats = let s = size_at 8 text c in floats_changed s.value s.cursor floats

  -- The place behind up to eight changes of some numbers each
  unfoldable pub behind_changes : ℕ → Cursor → Cursor
  behind_changes each c = let s = size_at 8 text c in behind (s.value * each) text s.cursor
