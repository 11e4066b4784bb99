-- Entries whose nodes are below n, and what the choice of step 3 leaves in its two slices. Assumes nothing.
use Rattle.std.specs.Prelude.{◌≡◌, Bool, true, false, List, ℕ, ◌+◌, ◌≤◌, ◌<◌, length, drop, Float}
use Rattle.rules.specs.declared.Neighbor.{Neighbor}
use Rattle.rules.specs.Loops.{any_of}
use Rattle.rules.specs.Lists.{node_of, entries}
use Rattle.rules.specs.Build.{keep, choose}
use Rattle.lists.specs.All.{All}

-- each node number is below n
abbrev pub AllBelow : ℕ → List Neighbor → Type 0
AllBelow n es = All (λ (e : Neighbor). node_of e < n) es

-- whether the test holds of one of the four entries from i on: a no leaves those behind them to be asked
pub record FourStand (test : Neighbor → Bool) (ns : List ℕ) (ds : List Float) (kept i : ℕ) (r : Bool) : Type 0 where
  pub yes : r ≡ true → any_of test (entries kept ns ds) ≡ true
  pub no : r ≡ false → any_of test (drop (i + 4) (entries kept ns ds)) ≡ any_of test (drop i (entries kept ns ds))

-- the first r places after one p, where the first kept were kept before
pub record Kept (occluded : Neighbor → Neighbor → Bool) (index_size : ℕ) (p : Neighbor) (ns : List ℕ) (ds : List Float) (kept : ℕ) (ns' : List ℕ) (ds' : List Float) (r : ℕ) : Type 0 where
  pub list : entries r ns' ds' ≡ keep occluded index_size p (entries kept ns ds)
  pub more : kept ≤ r
  pub within : r ≤ index_size
  pub nodes_rest : drop r ns' ≡ drop r ns
  pub dists_rest : drop r ds' ≡ drop r ds
  pub nodes_long : length ns' ≡ length ns
  pub dists_long : length ds' ≡ length ds

-- the first r places hold the chosen of es, and no other place is changed
pub record Chosen (occluded : Neighbor → Neighbor → Bool) (index_size : ℕ) (es : List Neighbor) (ns : List ℕ) (ds : List Float) (ns' : List ℕ) (ds' : List Float) (r : ℕ) : Type 0 where
  pub list : entries r ns' ds' ≡ choose occluded index_size es
  pub count : r ≡ length (choose occluded index_size es)
  pub within : r ≤ index_size
  pub nodes_rest : drop r ns' ≡ drop r ns
  pub dists_rest : drop r ds' ≡ drop r ds
  pub nodes_long : length ns' ≡ length ns
  pub dists_long : length ds' ≡ length ds
