-- Slots that can be linked, and room for a row and its pool. Assumes nothing.
use Rattle.std.specs.Prelude.{◌≡◌, false, List, ℕ, ◌≤◌, ◌<◌, length, Float}
use Rattle.rules.specs.declared.Neighbor.{Neighbor}
use Rattle.rules.specs.Lists.{node_of}
use Rattle.rules.specs.Rows.{is_empty}
use Rattle.lists.specs.All.{All}

-- each slot that is not empty has a node below n
abbrev pub Sound : ℕ → List Neighbor → Type 0
Sound n es = All (λ (e : Neighbor). is_empty e ≡ false → node_of e < n) es

-- a row of w slots, and a pool for it and one offer more
pub record Row (w : ℕ) (ns : List ℕ) (ds : List Float) (ps : List ℕ) (qs : List Float) : Type 0 where
  pub nodes : length ns ≡ w
  pub dists : length ds ≡ w
  pub pool_nodes : w < length ps
  pub pool_dists : w < length qs
  pub wide : w ≤ 64
