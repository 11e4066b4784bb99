-- A list's descent state, read into the places of docs/LAYOUT.md. Assumes nothing.
use Rattle.std.specs.Prelude.{cond, List, ◌∷◌, ◌++◌, ℕ, zero, suc, ◌+◌, ◌-◌, ◌/◌, eqb, ltb, length, take, drop, Float}
use Rattle.cases.specs.declared.Cursor.{Cursor}
use Rattle.cases.specs.declared.Read.{Read}
use Rattle.cases.specs.declared.Fault.TheVariants.{Unexpected}
use Rattle.cases.specs.Text.{faulted, size_at, area_of, words_at, floats_at, behind}

-- What places hold after a reading, and the place in the text behind what was read
pub record Filled : Type 0 where
  pub words : List ℕ
  pub cursor : Cursor

abbrev pub filled : List ℕ → Cursor → Filled
filled words cursor = record { words = words; cursor = cursor }

-- with some places in front
unfoldable pub after : List ℕ → Filled → Filled
after front rest = filled (front ++ rest.words) rest.cursor

pub record State : Type 0 where
  pub words : List ℕ
  pub floats : List Float
  pub cursor : Cursor

abbrev pub state : List ℕ → List Float → Cursor → State
state words floats cursor = record { words = words; floats = floats; cursor = cursor }

module _ (text : List ℕ) where
  -- "the length, then 64 places": those behind the members stay as they were
  unfoldable pub block : Read ℕ → List ℕ → List ℕ
  block s places = s.value ∷ (words_at s.value text s.cursor ++ drop (1 + s.value) places)

  -- n context lists, each in 65 places; further places are a fault
  unfoldable pub blocks : ℕ → Cursor → List ℕ → Filled
  blocks zero c places = filled places (cond (eqb (length places) 0) c (faulted c Unexpected))
  blocks (suc n) c places =
      let s = size_at 64 text c in
      let written = block s places in
      after (take 65 written) (blocks n (behind s.value text s.cursor) (drop 65 written))

  -- as many as there are places for
  abbrev pub blocks_at : Cursor → List ℕ → Filled
  blocks_at c places = blocks (length places / 65) c places

  -- The nodes of the lists, the bits of their distances, and the contexts in the further words
  unfoldable pub lists_at : ℕ → Cursor → List ℕ → List Float → State
  lists_at lists c words floats =
      let nodes = behind lists text c in
      let contexts = blocks_at (behind (length floats) text nodes) (drop lists words) in
      state (words_at lists text c ++ contexts.words) (floats_at (length floats) text nodes) contexts.cursor

  -- n lists of k, 260 words a node, and the visited pairs in the words that are left; too few words are a fault, and stay.
  unfoldable pub state_at : ℕ → ℕ → Cursor → List ℕ → List Float → State
  state_at n k c words floats =
      let marks = area_of n k + area_of 260 n in
      let s = lists_at (area_of n k) c (take marks words) floats in
      let pairs = length words - marks in
      cond (ltb (length words) marks) (state words floats (faulted c Unexpected))
      (state (s.words ++ words_at pairs text s.cursor) s.floats (behind pairs text s.cursor))
