-- What the list of cases says: a call's numbers, and where its runs end. Assumes nothing.
use Rattle.std.specs.Prelude.{ℕ, List, slice_index}
use Rattle.cases.specs.declared.Cursor.{Cursor}
use Rattle.cases.specs.declared.Read.{Read}
use Rattle.cases.specs.Text.{words_at, behind}
use Rattle.refusals.specs.Given.{wide_of, run_at}
use Rattle.refusals_search.specs.declared.given.Call.{Call}

-- A call by its eight numbers: dimension, n, index_size, k, and the lengths of the result nodes and bits, and of scratch's words and floats
unfoldable pub call_of : List ℕ → Call
call_of xs =
    record {
      dimension = wide_of (slice_index xs 0);
      n = wide_of (slice_index xs 1);
      index_size = wide_of (slice_index xs 2);
      k = wide_of (slice_index xs 3);
      nodes = wide_of (slice_index xs 4);
      bits = wide_of (slice_index xs 5);
      words = wide_of (slice_index xs 6);
      floats = wide_of (slice_index xs 7);
    }

unfoldable pub case_at : List ℕ → Cursor → Read Call
case_at text c = record { value = call_of (words_at 8 text c); cursor = behind 8 text c }

-- The place behind a case, whose lanes, graph and roots, at most 65 each, and query, at most 2, stand behind its numbers
unfoldable pub behind_case : List ℕ → Cursor → Cursor
behind_case text c =
    let lanes = run_at 65 text (case_at text c).cursor in
    let graph = run_at 65 text lanes.cursor in
    let roots = run_at 65 text graph.cursor in
    (run_at 2 text roots.cursor).cursor
