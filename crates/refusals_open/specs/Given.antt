-- What the list of cases says: a call's numbers, and two entries of its lists. Assumes nothing.
use Rattle.std.specs.Prelude.{ℕ, List, slice_index}
use Rattle.cases.specs.declared.Cursor.{Cursor}
use Rattle.cases.specs.declared.Read.{Read}
use Rattle.cases.specs.Text.{words_at, behind}
use Rattle.refusals.specs.Given.{wide_of, bits_of, run_at}
use Rattle.refusals_open.specs.declared.given.Call.{Call}
use Rattle.refusals_open.specs.declared.given.Entry.{Entry}
use Rattle.refusals_open.specs.declared.given.Case.{Case}

-- A call by the first nine numbers: dimension, n, k, and the lengths of the list nodes and distances, of the state's words and floats, and
-- of scratch's
unfoldable pub call_of : List ℕ → Call
call_of xs =
    record {
      dimension = wide_of (slice_index xs 0);
      n = wide_of (slice_index xs 1);
      k = wide_of (slice_index xs 2);
      nodes = wide_of (slice_index xs 3);
      dists = wide_of (slice_index xs 4);
      words = wide_of (slice_index xs 5);
      floats = wide_of (slice_index xs 6);
      scratch_u = wide_of (slice_index xs 7);
      scratch_f = wide_of (slice_index xs 8);
    }

-- An entry: its place, its node, and its distance by the bits
unfoldable pub entry_of : ℕ → ℕ → ℕ → Entry
entry_of at node bits = record { at = wide_of at; node = node; dist = bits_of bits }

-- The two entries stand behind the call's numbers.
unfoldable pub case_of : List ℕ → Case
case_of xs =
    record {
      call = call_of xs;
      first = entry_of (slice_index xs 9) (slice_index xs 10) (slice_index xs 11);
      second = entry_of (slice_index xs 12) (slice_index xs 13) (slice_index xs 14);
    }

unfoldable pub case_at : List ℕ → Cursor → Read Case
case_at text c = record { value = case_of (words_at 15 text c); cursor = behind 15 text c }

-- The place behind a case, whose lanes, at most 1,025, and jobs, at most 65, stand behind its numbers
unfoldable pub behind_case : List ℕ → Cursor → Cursor
behind_case text c = (run_at 130 text (run_at 1025 text (case_at text c).cursor).cursor).cursor
