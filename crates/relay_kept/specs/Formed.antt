-- "A well-formed relay state", of the relay that the state encodes. Assumes nothing.
use Rattle.std.specs.Prelude.{◌≡◌, true, List, ℕ, ◌+◌, ◌≤◌, ◌<◌, length}
use Rattle.rules.specs.declared.Neighbor.{Neighbor}
use Rattle.rules.specs.Offers.{entries_formed}
use Rattle.rules.specs.Descent.{list_at}
use Rattle.rules.specs.Relay.{Job, Relay}
use Rattle.rules.specs.RelayPlaces.{job_formed, pending_at}
use Rattle.neighbor.specs.Holdable.{Holdable}
use Rattle.lists.specs.Ascending.{AllHoldable, Ascending}
use Rattle.lists.specs.All.{All}
use Rattle.encoded.specs.Words.{Readable}

-- "ascending, no node above n, node n exactly with that distance, all other distances fit"; f32 slices hold binary32 values
pub record ListFormed (n : ℕ) (l : List Neighbor) : Type 0 where
  pub ascends : Ascending l
  pub held : AllHoldable l
  pub entries : entries_formed n l ≡ true

-- "jobs row 9 passes, 0 to 8 steps done in each, fit distances (0.0 if u = v), no taken report before its look or if u = v, a yes at each measure"
pub record JobFormed (n : ℕ) (j : Job) : Type 0 where
  pub formed : job_formed n j ≡ true
  pub held : Holdable j.distance
  pub readable : Readable j

-- "each list at k plus the jobs that have pushed to it and not yet popped"
pub record Formed (n k : ℕ) (r : Relay) : Type 0 where
  pub nodes : length r.lists ≡ n
  pub lists : (w : ℕ) → w < n → ListFormed n (list_at r.lists w)
  pub lengths : (w : ℕ) → w < n → length (list_at r.lists w) ≡ k + pending_at w r.jobs
  pub some : 1 ≤ length r.jobs
  pub few : length r.jobs ≤ 64
  pub jobs : All (JobFormed n) r.jobs
