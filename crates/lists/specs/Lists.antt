-- What each function leaves in the two slices of a list. Assumes nothing.
use Rattle.std.specs.Prelude.{◌≡◌, List, ◌++◌, ℕ, suc, ◌+◌, ◌≤◌, min, take, drop, set, length, Float}
use Rattle.rules.specs.declared.Neighbor.{Neighbor}
use Rattle.rules.specs.Distance.{zero32}
use Rattle.rules.specs.Lists.{entries, insert, place, sort}

-- xs with what stands from p up to n moved up by one place: what stands at p stays there too, and what stood at n is lost
unfoldable pub hole : {A : Type 0} → ℕ → ℕ → List A → List A
hole p n xs = take (suc p) xs ++ (drop p (take n xs) ++ drop (suc n) xs)

pub record PlaceFound (ns : List ℕ) (ds : List Float) (len : ℕ) (e : Neighbor) (r : ℕ) : Type 0 where
  pub at : r ≡ place e (entries len ns ds)
  pub within : r ≤ len

-- a push that keeps the least k
pub record PushedCut (ns : List ℕ) (ds : List Float) (len k : ℕ) (e : Neighbor) (ns' : List ℕ) (ds' : List Float) (r : ℕ) : Type 0 where
  pub count : r ≡ min k (len + 1)
  pub within : r ≤ k
  pub list : entries r ns' ds' ≡ take k (insert e (entries len ns ds))
  pub nodes_rest : drop r ns' ≡ drop r ns
  pub dists_rest : drop r ds' ≡ drop r ds
  pub nodes_long : length ns' ≡ length ns
  pub dists_long : length ds' ≡ length ds

pub record Pushed (ns : List ℕ) (ds : List Float) (len : ℕ) (e : Neighbor) (ns' : List ℕ) (ds' : List Float) (r : ℕ) : Type 0 where
  pub count : r ≡ len + 1
  pub list : entries r ns' ds' ≡ insert e (entries len ns ds)
  pub nodes_rest : drop r ns' ≡ drop r ns
  pub dists_rest : drop r ds' ≡ drop r ds
  pub nodes_long : length ns' ≡ length ns
  pub dists_long : length ds' ≡ length ds

-- "unused places are zero": the place that is freed is zeroed
pub record Popped (ns : List ℕ) (ds : List Float) (len : ℕ) (ns' : List ℕ) (ds' : List Float) (r : ℕ) : Type 0 where
  pub count : r + 1 ≡ len
  pub nodes : ns' ≡ set ns r 0
  pub dists : ds' ≡ set ds r zero32
  pub list : entries r ns' ds' ≡ take r (entries len ns ds)

pub record SortedIn (ns : List ℕ) (ds : List Float) (len : ℕ) (ns' : List ℕ) (ds' : List Float) : Type 0 where
  pub list : entries len ns' ds' ≡ sort (entries len ns ds)
  pub nodes_rest : drop len ns' ≡ drop len ns
  pub dists_rest : drop len ds' ≡ drop len ds
  pub nodes_long : length ns' ≡ length ns
  pub dists_long : length ds' ≡ length ds
