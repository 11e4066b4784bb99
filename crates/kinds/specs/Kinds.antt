-- The kinds of the oracle's cases, and the place behind one of each and behind its parts, by the format of oracle/README.md. Assumes nothing.
use Rattle.std.specs.Prelude.{◌≡◌, true, is_some, cond, List, ℕ, zero, suc, ◌+◌, ◌*◌, ◌/◌, ◌==◌, Option, Some, None, option_and_then}
use Rattle.cases.specs.declared.Cursor.{Cursor}
use Rattle.cases.specs.declared.Read.{Read}
use Rattle.kinds.specs.declared.Kind.{Kind}
use Rattle.kinds.specs.declared.Kind.TheVariants.{Build, Search, Descent, Iteration, Relay, Links}
use Rattle.replays.specs.Next.{case_at}
use Rattle.cases.specs.Text.{word_at, size_at, area_of, behind}

-- The kind that a number says
unfoldable pub kind_of : ℕ → Option Kind
kind_of number =
    cond (number == 1) (Some Build)
    (cond (number == 2) (Some Search)
    (cond (number == 3) (Some Descent)
    (cond (number == 4) (Some Iteration)
    (cond (number == 5) (Some Relay)
    (cond (number == 6) (Some Links) None)))))

-- The next case and its kind
unfoldable pub kind_at : List ℕ → ℕ → Cursor → Read (Option Kind)
kind_at text passed c =
    let case = case_at text passed c in
    record { value = option_and_then kind_of case.value; cursor = case.cursor }

-- n steps, one after the other
unfoldable pub times : (Cursor → Cursor) → ℕ → Cursor → Cursor
times step zero c = c
times step (suc n) c = times step n (step c)

-- A step goes where `made` says, and nowhere behind a fault.
pub record Steps (Post : Cursor → Cursor → Type 0) (made : Cursor → Cursor) : Type 0 where
  pub goes : (c r : Cursor) → Post c r → r ≡ made c
  pub stays : (c : Cursor) → is_some c.fault ≡ true → made c ≡ c

module _ (text : List ℕ) where
  -- A length; none in a list is over 65,536.
  abbrev pub size : Cursor → Read ℕ
  size c = size_at 65536 text c

  -- A run after its length
  unfoldable pub behind_run : Cursor → Cursor
  behind_run c = let s = size c in behind s.value text s.cursor

  abbrev pub behind_runs : ℕ → Cursor → Cursor
  behind_runs count c = times behind_run count c

  -- A descent's state: lists, four contexts for each node, and a bit for each pair
  unfoldable pub behind_state : ℕ → ℕ → Cursor → Cursor
  behind_state n k c =
      behind ((area_of n n + 31) / 32) text (behind_runs (area_of 4 n) (behind (2 * area_of n k) text c))

  -- What one iteration answers: the cost, the total of new and the state
  unfoldable pub behind_iteration : ℕ → ℕ → Cursor → Cursor
  behind_iteration n k c = behind_state n k (behind 2 text c)

  abbrev pub behind_iterations : ℕ → ℕ → ℕ → Cursor → Cursor
  behind_iterations count n k c = times (behind_iteration n k) count c

  -- The list that a move left: its length, nodes and bits
  unfoldable pub behind_move : Cursor → Cursor
  behind_move c = let s = size c in behind (2 * s.value) text s.cursor

  abbrev pub behind_moves : ℕ → Cursor → Cursor
  behind_moves count c = times behind_move count c

  -- d, n, `init_k`, L, `neighbor_neighbor_size`, the threshold and the lanes; n exact lists; rows after steps 4 and 5, nodes and bits, and the graph
  unfoldable pub behind_build : Cursor → Cursor
  behind_build c =
      let d = size c in
      let n = size d.cursor in
      let row = size (word_at text n.cursor).cursor in
      let exact = behind_runs n.value (behind (2 + area_of n.value d.value) text row.cursor) in
      behind (5 * area_of n.value row.value) text exact

  -- d, n, L, k, the roots, the lanes, the query and the graph; m, nodes and bits, and the takings
  unfoldable pub behind_search : Cursor → Cursor
  behind_search c =
      let d = size c in
      let n = size d.cursor in
      let row = size n.cursor in
      let roots = behind_runs 1 (word_at text row.cursor).cursor in
      let m = size (behind (area_of n.value d.value + d.value + area_of n.value row.value) text roots) in
      behind (2 * m.value + 1) text m.cursor

  -- d, n, k, s, the lanes, the draws; the states
  unfoldable pub behind_descent : Cursor → Cursor
  behind_descent c =
      let d = size c in
      let n = size d.cursor in
      let k = size n.cursor in
      let begin = behind_runs 1 (behind (1 + area_of n.value d.value) text k.cursor) in
      let count = size begin in
      let begun = behind_state n.value k.value (behind_runs count.value count.cursor) in
      behind_iterations count.value n.value k.value begun

  -- One iteration from a given state
  unfoldable pub behind_alone : Cursor → Cursor
  behind_alone c =
      let d = size c in
      let n = size d.cursor in
      let k = size n.cursor in
      let given = behind_state n.value k.value (behind (1 + area_of n.value d.value) text k.cursor) in
      behind_iterations 1 n.value k.value (behind_runs 1 given)

  -- d, n, k, the lanes, the lists, the jobs and the moves; what each move left, the lists at the end, and two reports for each job
  unfoldable pub behind_relay : Cursor → Cursor
  behind_relay c =
      let d = size c in
      let n = size d.cursor in
      let k = size n.cursor in
      let lists = 2 * area_of n.value k.value in
      let jobs = size (behind (area_of n.value d.value + lists) text k.cursor) in
      let count = size (behind (2 * jobs.value) text jobs.cursor) in
      let made = behind_moves count.value (behind count.value text count.cursor) in
      behind (lists + 2 * jobs.value) text made

  -- Step 5 alone: d, n, L, the threshold, the lanes, and the rows before and after
  unfoldable pub behind_links : Cursor → Cursor
  behind_links c =
      let d = size c in
      let n = size d.cursor in
      let row = size n.cursor in
      behind (1 + area_of n.value d.value + 4 * area_of n.value row.value) text row.cursor

  -- A case of some kind
  unfoldable pub behind_case : Kind → Cursor → Cursor
  behind_case Build c = behind_build c
  behind_case Search c = behind_search c
  behind_case Descent c = behind_descent c
  behind_case Iteration c = behind_alone c
  behind_case Relay c = behind_relay c
  behind_case Links c = behind_links c
