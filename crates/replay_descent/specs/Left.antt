-- What the calls of a descent answered and left, beside the list's. Assumes nothing.
use Rattle.std.specs.Prelude.{false, List, ℕ, eqb, Float}
use Rattle.cases.specs.declared.Cursor.{Cursor}
use Rattle.cases.specs.Text.{word_at, area_of}
use Rattle.kinds.specs.Kinds.{behind_state}
use Rattle.states.specs.Read.{State, state_at}
use Rattle.states.specs.Same.{alike, alike_to, same_bits}
use Rattle.tallies.specs.declared.Difference.TheVariants.{Refused, Nodes, Bits, Count, Words}
use Rattle.tallies.specs.declared.Outcome.{Outcome}
use Rattle.tallies.specs.Tallies.{moved_to, joined}
use Rattle.replay_descent.specs.declared.shape.Shape.{Shape}

-- The lists' nodes, their distances by their bits, and all words
unfoldable pub compared_with : Outcome → Shape → List ℕ → List Float → List ℕ → List Float → Outcome
compared_with o s us fs words floats =
    let p = joined o (alike_to eqb (area_of s.n s.k) us words) Nodes in
    let q = joined p (alike same_bits fs floats) Bits in
    joined q (alike eqb us words) Words

module _ (text : List ℕ) where
  -- What stands next, read into two slices
  abbrev pub state_read : Outcome → Shape → List ℕ → List Float → State
  state_read o s words floats = state_at text s.n s.k o.cursor words floats

  unfoldable pub beside_at : Outcome → Shape → List ℕ → List Float → List ℕ → List Float → Outcome
  beside_at o s us fs words floats =
      let r = state_read o s words floats in
      compared_with (moved_to o r.cursor) s us fs r.words r.floats

  -- A refusal, whose state is passed
  unfoldable pub refused_at : Outcome → Cursor → Shape → Outcome
  refused_at o c s = joined (moved_to o (behind_state text s.n s.k c)) false Refused

  -- The cost and the total of new
  unfoldable pub counts_at : Outcome → ℕ → ℕ → Outcome
  counts_at o cost new =
      let a = word_at text o.cursor in
      let b = word_at text a.cursor in
      joined (joined (moved_to o b.cursor) (eqb a.value cost) Count) (eqb b.value new) Count
