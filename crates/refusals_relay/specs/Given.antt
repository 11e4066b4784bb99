-- What the list of cases says: a call's numbers, and what is done to the state that it is lent. Assumes nothing.
use Rattle.std.specs.Prelude.{ℕ, List, slice_index, slice_set, Float}
use Rattle.cases.specs.declared.Cursor.{Cursor}
use Rattle.cases.specs.declared.Read.{Read}
use Rattle.cases.specs.Text.{words_at, behind}
use Rattle.refusals.specs.Given.{wide_of, bits_of}
use Rattle.refusals_relay.specs.declared.given.Lent.{Lent}
use Rattle.refusals_relay.specs.declared.given.State.{State}
use Rattle.refusals_relay.specs.declared.given.Case.{Case}

-- A call by the first eight numbers: n, k, the job to move, and the lengths of the state's words and floats, of the list nodes and
-- distances, and of the reports
unfoldable pub lent_of : List ℕ → Lent
lent_of xs =
    record {
      n = wide_of (slice_index xs 0);
      k = wide_of (slice_index xs 1);
      job = wide_of (slice_index xs 2);
      words = wide_of (slice_index xs 3);
      floats = wide_of (slice_index xs 4);
      nodes = wide_of (slice_index xs 5);
      dists = wide_of (slice_index xs 6);
      reports = wide_of (slice_index xs 7);
    }

-- A state by the eight numbers behind them: the steps of job 0 and of each other job, two places with their words, and a place with the
-- bits of its float
unfoldable pub state_of : List ℕ → State
state_of xs =
    record {
      first = wide_of (slice_index xs 8);
      rest = wide_of (slice_index xs 9);
      at = wide_of (slice_index xs 10);
      word = slice_index xs 11;
      also = wide_of (slice_index xs 12);
      other = slice_index xs 13;
      float_at = wide_of (slice_index xs 14);
      float = bits_of (slice_index xs 15);
    }

unfoldable pub case_at : List ℕ → Cursor → Read Case
case_at text c =
    let xs = words_at 16 text c in
    record { value = record { lent = lent_of xs; state = state_of xs }; cursor = behind 16 text c }

-- What is put into a state before the call
unfoldable pub words_damaged : State → List ℕ → List ℕ
words_damaged s words = slice_set (slice_set words s.at s.word) s.also s.other

unfoldable pub floats_damaged : State → List Float → List Float
floats_damaged s floats = slice_set floats s.float_at s.float
