-- Steps 2 to 4 of one node, and of every node. Assumes nothing.
use Rattle.std.specs.Prelude.{◌≡◌, List, ℕ, ◌-◌, ◌*◌, ◌≤◌, ◌<◌, min, length, replicate, Float}
use Rattle.rules.specs.Lists.{entries}
use Rattle.rules.specs.Calls.{BuildSizes}
use Rattle.rules.specs.Build.{Between, exact_list, pruned, pruned_slots}
use Rattle.hops.specs.Hops.{list_of}

abbrev pub sizes : ℕ → ℕ → ℕ → Float → BuildSizes
sizes init_k index_size hops threshold = record { init_k = init_k; index_size = index_size; neighbor_neighbor_size = hops; threshold = threshold }

-- the exact lists of n nodes, their numbers in range
pub record Given (d : Between) (n init_k count limit : ℕ) (lists : List ℕ) : Type 0 where
  pub few : n ≤ 4096
  pub most : init_k ≤ 64
  pub hops : limit ≤ 256
  pub fewest : count ≡ min init_k (n - 1)
  pub room : n * init_k ≤ length lists
  pub each : (q : ℕ) → q < n → list_of lists init_k count q ≡ exact_list d n init_k q

-- cleared flags of n nodes, and room for the candidates
pub record Room (n : ℕ) (flags nodes : List ℕ) (dists : List Float) : Type 0 where
  pub long : length flags ≡ n
  pub clear : flags ≡ replicate (length flags) 0
  pub nodes_long : length nodes ≡ 320
  pub dists_long : length dists ≡ 320

pub record PrunedRow (d : Between) (n : ℕ) (p : BuildSizes) (q : ℕ) (seen seen' nodes' : List ℕ) (dists' : List Float) (ns' : List ℕ) (ds' : List Float) : Type 0 where
  pub row : entries p.index_size ns' ds' ≡ pruned d n p q
  pub flags : seen' ≡ seen
  pub nodes_long : length nodes' ≡ 320
  pub dists_long : length dists' ≡ 320

-- the rows of all nodes, one behind the other
pub record PrunedAll (d : Between) (n : ℕ) (p : BuildSizes) (ns : List ℕ) (ds : List Float) (ns' : List ℕ) (ds' : List Float) : Type 0 where
  pub slots : entries (n * p.index_size) ns' ds' ≡ pruned_slots d n p
  pub nodes_long : length ns' ≡ length ns
  pub dists_long : length ds' ≡ length ds
