-- Room for the slots and the pool, and what step 5 leaves in their slices. Assumes nothing.
use Rattle.std.specs.Prelude.{◌≡◌, List, ℕ, ◌*◌, ◌≤◌, ◌<◌, length, Float}
use Rattle.rules.specs.declared.Neighbor.{Neighbor}
use Rattle.rules.specs.Loops.{turns}
use Rattle.rules.specs.Lists.{entries}
use Rattle.rules.specs.Build.{Between, link}
use Rattle.offers.specs.Sound.{Sound}

-- n rows of w slots, and a pool for a row and one offer more
pub record Room (n w : ℕ) (ns : List ℕ) (ds : List Float) (ps : List ℕ) (qs : List Float) : Type 0 where
  pub nodes : n * w ≤ length ns
  pub dists : n * w ≤ length ds
  pub pool_nodes : w < length ps
  pub pool_dists : w < length qs
  pub most : n ≤ 4096
  pub wide : w ≤ 64
  pub some : 1 ≤ w

-- the slots in the two slices
pub record Linked (n w : ℕ) (slots : List Neighbor) (ns : List ℕ) (ds : List Float) : Type 0 where
  pub list : entries (n * w) ns ds ≡ slots
  pub sound : Sound n (entries (n * w) ns ds)

-- the links of node v, and of every node rising
unfoldable pub links_of : Between → Float → ℕ → ℕ → List Neighbor → List Neighbor
links_of d threshold index_size v slots = turns (link d threshold index_size v) index_size slots

unfoldable pub links_all : Between → ℕ → Float → ℕ → List Neighbor → List Neighbor
links_all d n threshold index_size slots = turns (links_of d threshold index_size) n slots
