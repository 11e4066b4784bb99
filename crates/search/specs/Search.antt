-- What the entry `search` is lent, and what a search counts on once the table has passed. Assumes nothing.
use Rattle.std.specs.Prelude.{◌≡◌, List, ℕ, ◌+◌, ◌*◌, ◌≤◌, length, Float}
use Rattle.rules.specs.Answers.{SearchAnswer}
use Rattle.rules.specs.SearchCall.{SearchLent, search_left, search_rule, search_work}
use Rattle.walk.specs.Walks.{Roots}

abbrev pub lent : ℕ → ℕ → List Float → List ℕ → ℕ → List ℕ → List Float → ℕ → List ℕ → List ℕ → List ℕ → List Float → SearchLent
lent dimension n lanes graph index_size roots query k nodes bits su sf =
    record {
      dimension = dimension;
      n = n;
      lanes = lanes;
      graph = graph;
      index_size = index_size;
      roots = roots;
      query = query;
      k = k;
      result_nodes = nodes;
      result_bits = bits;
      scratch_u = su;
      scratch_f = sf;
    }

-- what a call leaves is what the rulebook says of what it was lent
pub record Searched (l : SearchLent) (r : SearchAnswer) (nodes bits su : List ℕ) (sf : List Float) : Type 0 where
  pub whole : search_left r nodes bits su sf ≡ search_rule l

-- what the table leaves for the walk
pub record Ready (l : SearchLent) : Type 0 where
  pub lanes_long : length l.lanes ≡ l.n * l.dimension
  pub query_long : length l.query ≡ l.dimension
  pub few_nodes : l.n ≤ 4096
  pub graph_long : length l.graph ≡ l.n * l.index_size
  pub narrow : l.index_size ≤ 64
  pub roots : Roots l.n l.roots
  pub some : 1 ≤ l.k
  pub few : l.k ≤ 64
  pub nodes_room : l.k ≤ length l.result_nodes
  pub bits_room : l.k ≤ length l.result_bits
  pub words_room : 4 * l.n + 1024 ≤ length l.scratch_u
  pub floats_room : 4 * l.n + 1024 ≤ length l.scratch_f

pub record Worked (l : SearchLent) (r : SearchAnswer) (nodes bits su : List ℕ) (sf : List Float) : Type 0 where
  pub whole : search_left r nodes bits su sf ≡ search_work l
