-- What the entry `build` is lent, what it counts on once the table has passed, and what it leaves. Assumes nothing.
use Rattle.std.specs.Prelude.{◌≡◌, List, ℕ, ◌*◌, ◌≤◌, length, replicate, Float}
use Rattle.rules.specs.Answers.{Answer}
use Rattle.rules.specs.Lists.{entries}
use Rattle.rules.specs.Distance.{between, zero32}
use Rattle.rules.specs.Calls.{build_scratch}
use Rattle.rules.specs.Build.{pruned_slots, graph_of}
use Rattle.rules.specs.BuildCall.{BuildLent, build_rule, build_left}
use Rattle.params.specs.declared.SsgParams.{SsgParams}
use Rattle.params.specs.Params.{sizes_of}

abbrev pub lent : SsgParams → ℕ → ℕ → List Float → List ℕ → List ℕ → List Float → BuildLent
lent params dimension n lanes graph su sf =
    record { sizes = sizes_of params; dimension = dimension; n = n; lanes = lanes; graph = graph; scratch_u = su; scratch_f = sf }

-- what a call leaves is what the rulebook says of what it was lent
pub record Built (l : BuildLent) (r : Answer) (graph su : List ℕ) (sf : List Float) : Type 0 where
  pub whole : build_left r graph su sf ≡ build_rule l

-- what the table leaves for the steps
pub record Ready (l : BuildLent) : Type 0 where
  pub lanes_long : length l.lanes ≡ l.n * l.dimension
  pub some_nodes : 2 ≤ l.n
  pub few_nodes : l.n ≤ 4096
  pub some_k : 1 ≤ l.sizes.init_k
  pub few_k : l.sizes.init_k ≤ 64
  pub some_slots : 1 ≤ l.sizes.index_size
  pub few_slots : l.sizes.index_size ≤ 64
  pub few_hops : l.sizes.neighbor_neighbor_size ≤ 256
  pub graph_long : length l.graph ≡ l.n * l.sizes.index_size
  pub words_room : build_scratch l.n l.sizes.init_k l.sizes.index_size ≤ length l.scratch_u
  pub floats_room : build_scratch l.n l.sizes.init_k l.sizes.index_size ≤ length l.scratch_f

-- after step 4: the slots' nodes in the graph's places, their distances in the front of the floats
pub record Sliced (l : BuildLent) (graph su : List ℕ) (sf : List Float) : Type 0 where
  pub slots : entries (l.n * l.sizes.index_size) graph sf ≡ pruned_slots (between l.lanes l.dimension) l.n l.sizes
  pub graph_long : length graph ≡ length l.graph
  pub words_long : length su ≡ length l.scratch_u
  pub floats_long : length sf ≡ length l.scratch_f

-- after step 6: the graph, and scratch all zero
pub record Worked (l : BuildLent) (graph su : List ℕ) (sf : List Float) : Type 0 where
  pub graph_is : graph ≡ graph_of (between l.lanes l.dimension) l.n l.sizes
  pub words : su ≡ replicate (length l.scratch_u) 0
  pub floats : sf ≡ replicate (length l.scratch_f) zero32
