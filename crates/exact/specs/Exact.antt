-- The distances of a node to all, and what the functions of step 1 leave in their slices. Assumes nothing.
use Rattle.std.specs.Prelude.{◌≡◌, cond, List, [], ◌∷◌, map, ℕ, ◌+◌, ◌-◌, ◌*◌, ◌≤◌, ◌<◌, min, eqb, ltb, length, take, drop, get_or, Float}
use Rattle.std.specs.Float.{nan}
use Rattle.rules.specs.Loops.{each, over}
use Rattle.rules.specs.Distance.{answer, carried}
use Rattle.rules.specs.Lists.{entries, insert, least}
use Rattle.rules.specs.Rows.{empty_distance}
use Rattle.neighbor.specs.Holdable.{Holdable}
use Rattle.rules.specs.Build.{Between, entry, others, exact_list}

-- the distances of q to the nodes 0, 1, .., n - 1
unfoldable pub distances_from : Between → ℕ → ℕ → List Float
distances_from d n q = each (λ (i : ℕ). d q i ∷ []) n

-- the same distance of any two
abbrev pub always : Float → Between
always x q i = x

-- a distance that is read from a slice that holds one in each step places, from the place at on
abbrev pub apart_in : ℕ → ℕ → List Float → Between
apart_in step at row q i = get_or row (i * step + at) nan

-- a list can hold the first n of them
abbrev pub HoldsRow : ℕ → ℕ → List Float → ℕ → Type 0
HoldsRow step at row n = (i : ℕ) → i < n → Holdable (get_or row (i * step + at) nan)

-- what eight totals carry, the first c of them written from the place at on
pub record PutEight (rows : List Float) (at : ℕ) (totals : List Float) (c : ℕ) (rows' : List Float) : Type 0 where
  pub put : (t : ℕ) → t < c → get_or rows' (at + t) nan ≡ carried (answer (get_or totals t nan))
  pub low : (j : ℕ) → j < at → get_or rows' j nan ≡ get_or rows j nan
  pub long : length rows' ≡ length rows

-- the distances of the nodes from base on, at most eight, to the first m
abbrev pub Eight : Between → ℕ → ℕ → ℕ → List Float → Type 0
Eight d n base m rows = (t i : ℕ) → t < 8 → base + t < n → i < m → get_or rows (i * 8 + t) nan ≡ d (base + t) i

-- nothing farther than this is among the least k
unfoldable pub farthest : List Float → ℕ → ℕ → Float
farthest ds len k = cond (ltb len k) empty_distance (get_or ds (len - 1) nan)

-- a node below n that is not q
abbrev pub Other : ℕ → ℕ → ℕ → Type 0
Other n q i = (i < n) × (i ≡ q → ⊥)

-- one node offered: q itself is passed over
pub record Offered (d : Between) (q i k : ℕ) (ns : List ℕ) (ds : List Float) (len : ℕ) (ns' : List ℕ) (ds' : List Float) (r : ℕ) : Type 0 where
  pub list : entries r ns' ds' ≡ cond (eqb i q) (entries len ns ds) (take k (insert (entry d q i) (entries len ns ds)))
  pub more : len ≤ r
  pub within : r ≤ k
  pub nodes_rest : drop r ns' ≡ drop r ns
  pub dists_rest : drop r ds' ≡ drop r ds
  pub nodes_long : length ns' ≡ length ns
  pub dists_long : length ds' ≡ length ds

-- the same, with the farthest that is held then
pub record Considered (d : Between) (q i k : ℕ) (ns : List ℕ) (ds : List Float) (len : ℕ) (ns' : List ℕ) (ds' : List Float) (r : ℕ) (bound : Float) : Type 0 where
  pub offered : Offered d q i k ns ds len ns' ds' r
  pub beyond : bound ≡ farthest ds' r k

-- the nodes below n offered
pub record Gathered (d : Between) (n k q : ℕ) (ns : List ℕ) (ds : List Float) (ns' : List ℕ) (ds' : List Float) (r : ℕ) : Type 0 where
  pub list : entries r ns' ds' ≡ least k (map (entry d q) (others q n))
  pub within : r ≤ k
  pub nodes_rest : drop r ns' ≡ drop r ns
  pub dists_rest : drop r ds' ≡ drop r ds
  pub nodes_long : length ns' ≡ length ns
  pub dists_long : length ds' ≡ length ds

-- the exact list of q in the first r places of out
pub record Listed (d : Between) (n k q : ℕ) (ns : List ℕ) (ds : List Float) (out : List ℕ) (ns' : List ℕ) (ds' : List Float) (out' : List ℕ) (r : ℕ) : Type 0 where
  pub list : take r out' ≡ exact_list d n k q
  pub count : r ≡ length (exact_list d n k q)
  pub fewest : r ≡ min k (n - 1)
  pub out_rest : drop r out' ≡ drop r out
  pub out_long : length out' ≡ length out
  pub work : Gathered d n k q ns ds ns' ds' r

-- the same, and what the work leaves behind in the other slices
pub record Exact (d : Between) (n k q : ℕ) (row : List Float) (ns : List ℕ) (ds : List Float) (out : List ℕ) (row' : List Float) (ns' : List ℕ) (ds' : List Float) (out' : List ℕ) (r : ℕ) : Type 0 where
  pub list : take r out' ≡ exact_list d n k q
  pub count : r ≡ length (exact_list d n k q)
  pub fewest : r ≡ min k (n - 1)
  pub out_rest : drop r out' ≡ drop r out
  pub out_long : length out' ≡ length out
  pub distances : row' ≡ over n (distances_from d n q) row
  pub row_long : length row' ≡ length row
  pub work : Gathered d n k q ns ds ns' ds' r
