-- What an offer leaves in the two slices of a list. Assumes nothing.
use Rattle.std.specs.Prelude.{◌≡◌, List, ℕ, length, drop, Float}
use Rattle.rules.specs.declared.Neighbor.{Neighbor}
use Rattle.rules.specs.Lists.{entries}
use Rattle.rules.specs.Offers.{offer}

pub record OfferedTo (ns : List ℕ) (ds : List Float) (k : ℕ) (e : Neighbor) (ns' : List ℕ) (ds' : List Float) : Type 0 where
  pub list : entries k ns' ds' ≡ offer k e (entries k ns ds)
  pub nodes_rest : drop k ns' ≡ drop k ns
  pub dists_rest : drop k ds' ≡ drop k ds
  pub nodes_long : length ns' ≡ length ns
  pub dists_long : length ds' ≡ length ds
