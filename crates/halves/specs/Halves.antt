-- What one step of half a job leaves. Assumes nothing.
use Rattle.std.specs.Prelude.{◌≡◌, Bool, List, ℕ, ◌≤◌, length, Float}
use Rattle.rules.specs.declared.Neighbor.{Neighbor}
use Rattle.rules.specs.Distance.{zero32}
use Rattle.rules.specs.Lists.{entries, nodes_of, distances_of}
use Rattle.rules.specs.Relay.{Stage, taken_of, longer_of, next_stage, next_list}
use Rattle.rules.specs.Places.{padded}
use Rattle.halves.specs.declared.Flags.{Flags}

-- the flags of the next stage
pub record NextFlags (k : ℕ) (equal : Bool) (e : Neighbor) (l : List Neighbor) (s : Stage) (r : Flags) : Type 0 where
  pub taken : r.taken ≡ taken_of (next_stage k equal e l s)
  pub longer : r.longer ≡ longer_of (next_stage k equal e l s)

-- a list in its room, zeros behind it
pub record Roomed (ns : List ℕ) (ds : List Float) (len : ℕ) : Type 0 where
  pub long : len ≤ length ns
  pub wide : length ds ≡ length ns
  pub nodes : ns ≡ padded (length ns) 0 (nodes_of (entries len ns ds))
  pub dists : ds ≡ padded (length ns) zero32 (distances_of (entries len ns ds))

-- the next list in the same room
pub record NextList (ns : List ℕ) (ds : List Float) (len : ℕ) (e : Neighbor) (s : Stage) (ns' : List ℕ) (ds' : List Float) (r : ℕ) : Type 0 where
  pub count : r ≡ length (next_list e (entries len ns ds) s)
  pub few : r ≤ length ns
  pub nodes : ns' ≡ padded (length ns) 0 (nodes_of (next_list e (entries len ns ds) s))
  pub dists : ds' ≡ padded (length ns) zero32 (distances_of (next_list e (entries len ns ds) s))
