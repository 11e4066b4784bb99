-- "A call tests the rows that concern it": the rows of each of the seven calls, in order. Assumes nothing.
use Rattle.std.specs.Prelude.{Bool, not, List, [], ◌∷◌, ℕ, ◌+◌, ◌*◌, ◌/◌, ◌%◌, eqb, Float}
use Rattle.rules.specs.Answers.{Distance}
use Rattle.rules.specs.Numbers.{outside, most, most_hops, most_nodes, most_taught}
use Rattle.rules.specs.Refusals.{Row, row1, row2, row3, row4, row5, row6, row7, row8, row9, row10, row10_of_jobs, row11, row12, row13, not_exactly, less_than}

-- ---- lent lengths, in 01's words

-- "Scratch is a u32 slice and an f32 slice, each at least: build 4n(`init_k` + `index_size`) + 4,096;"
abbrev pub build_scratch : ℕ → ℕ → ℕ → ℕ
build_scratch n init_k index_size = 4 * n * (init_k + index_size) + 4096

-- "search 4n + 1,024;"
abbrev pub search_scratch : ℕ → ℕ
search_scratch n = 4 * n + 1024

-- "descent and relay 512n + 4,096."
abbrev pub taught_scratch : ℕ → ℕ
taught_scratch n = 512 * n + 4096

-- "Descent state is exactly nk + 260n + (n*n + 31)/32 u32 (whole division) and nk f32;"
abbrev pub descent_words : ℕ → ℕ → ℕ
descent_words n k = n * k + 260 * n + (n * n + 31) / 32

-- "relay state n(k + 65) + 1,024 u32 and n(k + 64) + 64 f32."
abbrev pub relay_words : ℕ → ℕ → ℕ
relay_words n k = n * (k + 65) + 1024

abbrev pub relay_floats : ℕ → ℕ → ℕ
relay_floats n k = n * (k + 64) + 64

-- the two lengths of scratch
pub record Scratch : Type 0 where
  pub words : ℕ
  pub floats : ℕ

abbrev pub scratch : ℕ → ℕ → Scratch
scratch words floats = record { words = words; floats = floats }

-- ---- build: 1, 2, 3, 4, 5, 6, and 10 of all pairs

pub record BuildSizes : Type 0 where
  pub init_k : ℕ
  pub index_size : ℕ
  pub neighbor_neighbor_size : ℕ
  pub threshold : Float

unfoldable pub build_rows : (dimension n lanes : ℕ) (p : BuildSizes) (graph : ℕ) (s : Scratch) → List Row
build_rows dimension n lanes p graph s =
    row1 dimension
    ∷ row2 most_nodes n
    ∷ row3 dimension n lanes
    ∷ row4 (outside 1 most p.init_k ∷ outside 1 most p.index_size ∷ outside 1 most_hops p.neighbor_neighbor_size ∷ [])
    ∷ row5 p.threshold
    ∷ row6
    (not_exactly (n * p.index_size) graph ∷ less_than (build_scratch n p.init_k p.index_size) s.words
    ∷ less_than (build_scratch n p.init_k p.index_size) s.floats ∷ [])
    ∷ []

-- ---- search: 1, 2, 3, 4, 6, 7, 8; its walk gives 10

unfoldable pub search_rows : (dimension n lanes graph index_size : ℕ) (roots : List ℕ) (query k results bits : ℕ) (s : Scratch) → List Row
search_rows dimension n lanes graph index_size roots query k results bits s =
    row1 dimension
    ∷ row2 most_nodes n
    ∷ row3 dimension n lanes
    ∷ row4 (outside 1 most index_size ∷ outside 1 most k ∷ [])
    ∷ row6
    (not_exactly (n * index_size) graph ∷ less_than k results ∷ less_than k bits ∷ less_than (search_scratch n) s.words
    ∷ less_than (search_scratch n) s.floats ∷ [])
    ∷ row7 n roots
    ∷ row8 dimension query
    ∷ []

-- ---- begin: 1, 2, 3, 4, 6, 10 of all pairs, 11; an iteration those, with its own draws, and 12

abbrev pub descent_buffers : (n k : ℕ) (words floats : ℕ) (s : Scratch) → List Bool
descent_buffers n k words floats s =
    not_exactly (descent_words n k) words ∷ not_exactly (n * k) floats ∷ less_than (taught_scratch n) s.words
    ∷ less_than (taught_scratch n) s.floats ∷ []

-- what both test before their draws
unfoldable pub descent_rows : (dimension n lanes k s words floats : ℕ) (x : Scratch) (apart : ℕ → ℕ → Distance) (more : List Row) → List Row
descent_rows dimension n lanes k s words floats x apart more =
    row1 dimension
    ∷ row2 most_taught n
    ∷ row3 dimension n lanes
    ∷ row4 (outside 1 most k ∷ outside 1 k s ∷ [])
    ∷ row6 (descent_buffers n k words floats x)
    ∷ row10 apart n
    ∷ more

-- "Draws: at least 2ns to begin a descent, 2nk for one iteration."
unfoldable pub begin_rows : (dimension n lanes k s words floats : ℕ) (x : Scratch) (apart : ℕ → ℕ → Distance) (draws : ℕ) → List Row
begin_rows dimension n lanes k s words floats x apart draws =
    descent_rows dimension n lanes k s words floats x apart (row11 (2 * n * s) draws ∷ [])

unfoldable pub iterate_rows : (dimension n lanes k s words floats : ℕ) (x : Scratch) (apart : ℕ → ℕ → Distance) (draws : ℕ) (well_formed : Bool) → List Row
iterate_rows dimension n lanes k s words floats x apart draws well_formed =
    descent_rows dimension n lanes k s words floats x apart (row11 (2 * n * k) draws ∷ row12 well_formed ∷ [])

-- ---- open: 1, 2, 3, 4, 6, 9, 10 of its jobs, 12 of its lists

abbrev pub odd : ℕ → Bool
odd len = not (eqb (len % 2) 0)

unfoldable pub open_rows : (dimension n lanes k nodes distances : ℕ) (jobs : List ℕ) (jobs_long words floats : ℕ) (x : Scratch) (apart : ℕ → ℕ → Distance) (well_formed : Bool) → List Row
open_rows dimension n lanes k nodes distances jobs jobs_long words floats x apart well_formed =
    row1 dimension
    ∷ row2 most_taught n
    ∷ row3 dimension n lanes
    ∷ row4 (outside 1 most k ∷ [])
    ∷ row6
    (not_exactly (n * k) nodes ∷ not_exactly (n * k) distances ∷ odd jobs_long ∷ not_exactly (relay_words n k) words
    ∷ not_exactly (relay_floats n k) floats ∷ less_than (taught_scratch n) x.words ∷ less_than (taught_scratch n) x.floats ∷ [])
    ∷ row9 n jobs
    ∷ row10_of_jobs apart jobs
    ∷ row12 well_formed
    ∷ []

-- ---- a move and a close: 2, 4, 6, 12 of the whole state, 13

unfoldable pub move_rows : (n k words floats : ℕ) (well_formed : Bool) (finished : Bool) (job : ℕ) → List Row
move_rows n k words floats well_formed finished job =
    row2 most_taught n
    ∷ row4 (outside 1 most k ∷ [])
    ∷ row6 (not_exactly (relay_words n k) words ∷ not_exactly (relay_floats n k) floats ∷ [])
    ∷ row12 well_formed
    ∷ row13 finished job
    ∷ []

unfoldable pub close_rows : (n k words floats nodes distances reports : ℕ) (well_formed : Bool) (unfinished : Bool) (lowest : ℕ) → List Row
close_rows n k words floats nodes distances reports well_formed unfinished lowest =
    row2 most_taught n
    ∷ row4 (outside 1 most k ∷ [])
    ∷ row6
    (not_exactly (relay_words n k) words ∷ not_exactly (relay_floats n k) floats ∷ not_exactly (n * k) nodes
    ∷ not_exactly (n * k) distances ∷ not_exactly 128 reports ∷ [])
    ∷ row12 well_formed
    ∷ row13 unfinished lowest
    ∷ []
