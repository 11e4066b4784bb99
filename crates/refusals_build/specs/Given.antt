-- What the list of cases says: a call's parameters and numbers, and where its lanes end. Assumes nothing.
use Rattle.std.specs.Prelude.{ℕ, List, slice_index}
use Rattle.params.specs.declared.SsgParams.{SsgParams}
use Rattle.params.specs.Params.{params}
use Rattle.cases.specs.declared.Cursor.{Cursor}
use Rattle.cases.specs.declared.Read.{Read}
use Rattle.cases.specs.Text.{words_at, behind}
use Rattle.refusals.specs.Given.{wide_of, bits_of, run_at}
use Rattle.refusals_build.specs.declared.given.Call.{Call}

-- Behind the dimension and n: init_k, index_size, neighbor_neighbor_size, and the threshold by its bits
unfoldable pub params_of : List ℕ → SsgParams
params_of xs = params (bits_of (slice_index xs 5)) (wide_of (slice_index xs 2)) (wide_of (slice_index xs 3)) (wide_of (slice_index xs 4))

-- A call by its ten numbers: dimension, n, the parameters, and the lengths of the graph, of scratch's words and floats, and of the lanes
unfoldable pub call_of : List ℕ → Call
call_of xs =
    record {
      params = params_of xs;
      dimension = wide_of (slice_index xs 0);
      n = wide_of (slice_index xs 1);
      graph = wide_of (slice_index xs 6);
      words = wide_of (slice_index xs 7);
      floats = wide_of (slice_index xs 8);
      lanes = wide_of (slice_index xs 9);
    }

unfoldable pub case_at : List ℕ → Cursor → Read Call
case_at text c = record { value = call_of (words_at 10 text c); cursor = behind 10 text c }

-- The place behind a case, whose first lanes, at most 4,096, stand behind its numbers
unfoldable pub behind_case : List ℕ → Cursor → Cursor
behind_case text c = (run_at 4096 text (case_at text c).cursor).cursor
