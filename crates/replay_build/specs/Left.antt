-- What a build left, beside the list's. Assumes nothing.
use Rattle.std.specs.Prelude.{List, ℕ, length, Option, is_none}
use Rattle.cases.specs.declared.Cursor.{Cursor}
use Rattle.cases.specs.Text.{area_of, words_at, behind}
use Rattle.kinds.specs.Kinds.{behind_runs}
use Rattle.replays.specs.Compare.{apart}
use Rattle.tallies.specs.declared.Difference.{Difference}
use Rattle.tallies.specs.declared.Difference.TheVariants.{Nodes}
use Rattle.tallies.specs.declared.Outcome.{Outcome}
use Rattle.tallies.specs.Tallies.{joined}

module _ (text : List ℕ) where
  -- Behind the n exact lists, and the nodes and bits of the rows after steps 4 and 5
  unfoldable pub behind_steps : ℕ → ℕ → Cursor → Cursor
  behind_steps n long c = behind (area_of 4 long) text (behind_runs text n c)

  -- The graph's nodes
  unfoldable pub beside_at : Cursor → ℕ → List ℕ → Option Difference → Outcome
  beside_at c n graph differs =
      let at = behind_steps n (length graph) c in
      let o : Outcome = record { differs = differs; cursor = behind (length graph) text at } in
      joined o (is_none (apart graph (words_at (length graph) text at))) Nodes
