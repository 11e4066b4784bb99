-- What a search found and left, beside the list's. Assumes nothing.
use Rattle.std.specs.Prelude.{cond, List, ℕ, ◌+◌, ◌*◌, min, eqb, leb, length, take, drop, Some, is_none}
use Rattle.cases.specs.declared.Cursor.{Cursor}
use Rattle.cases.specs.Text.{word_at, size_at, words_at, behind}
use Rattle.replays.specs.Compare.{apart, holds_only}
use Rattle.tallies.specs.declared.Difference.{Difference}
use Rattle.tallies.specs.declared.Difference.TheVariants.{Length, Nodes, Bits, Count, Beyond}
use Rattle.tallies.specs.declared.Outcome.{Outcome}
use Rattle.tallies.specs.Tallies.{junk, fresh_at, joined}

module _ (text : List ℕ) where
  -- Behind m, m nodes, m bits and the takings
  unfoldable pub passed_at : Cursor → Difference → Outcome
  passed_at c differs =
      let m = size_at 64 text c in
      record { differs = Some differs; cursor = behind (2 * m.value + 1) text m.cursor }

  -- Nodes, bits and takings
  unfoldable pub beside_at : Cursor → List ℕ → List ℕ → ℕ → Outcome
  beside_at c nodes bits takings =
      let b = behind (length nodes) text c in
      let t = word_at text (behind (length bits) text b) in
      let p = joined (fresh_at t.cursor) (is_none (apart nodes (words_at (length nodes) text c))) Nodes in
      let q = joined p (is_none (apart bits (words_at (length bits) text b))) Bits in
      joined q (eqb t.value takings) Count

  -- Another m, or one that our places have no room for, is a length; a place behind the results that has changed is a difference too.
  unfoldable pub found_at : Cursor → ℕ → ℕ → List ℕ → List ℕ → Outcome
  found_at c m takings nodes bits =
      let listed = size_at 64 text c in
      let o = beside_at listed.cursor (take m nodes) (take m bits) takings in
      cond (eqb m listed.value)
      (cond (leb m (min (length nodes) (length bits)))
      (joined (joined o (holds_only junk (drop m nodes)) Beyond) (holds_only junk (drop m bits)) Beyond)
      (passed_at c Length))
      (passed_at c Length)
