-- docs/LAYOUT.md, search: the areas of scratch, flags and queue of n places each, and two lists. Assumes nothing.
use Rattle.std.specs.Prelude.{◌≡◌, List, ℕ, ◌+◌, ◌≤◌, take, length, Float}
use Rattle.buffers.specs.Area.{area}
use Rattle.rules.specs.declared.Neighbor.{Neighbor}
use Rattle.rules.specs.Lists.{entries}
use Rattle.lists.specs.Ascending.{AllHoldable, Ascending}

-- where the best set begins among the words, and where the entries found in a row do
abbrev pub best_at : ℕ → ℕ
best_at n = n + n

abbrev pub found_at : ℕ → ℕ
found_at n = n + n + 64

abbrev pub seen_in : ℕ → List ℕ → List ℕ
seen_in n us = take n us

abbrev pub queue_in : ℕ → List ℕ → List ℕ
queue_in n us = area n n us

abbrev pub best_in : ℕ → List ℕ → List Float → ℕ → List Neighbor
best_in n us fs m = entries m (area (best_at n) 64 us) (area (best_at n) 64 fs)

abbrev pub found_in : ℕ → List ℕ → List Float → ℕ → List Neighbor
found_in n us fs len = entries len (area (found_at n) 64 us) (area (found_at n) 64 fs)

-- room for the areas
pub record Room (n : ℕ) (us : List ℕ) (fs : List Float) : Type 0 where
  pub words : n + n + 128 ≤ length us
  pub floats : n + n + 128 ≤ length fs

-- the best set is ascending, and lists can hold its distances
pub record BestSound (n : ℕ) (us : List ℕ) (fs : List Float) (m : ℕ) : Type 0 where
  pub held : AllHoldable (best_in n us fs m)
  pub rising : Ascending (best_in n us fs m)

-- the queue and the best set are as they were
pub record QueueKept (n : ℕ) (us : List ℕ) (fs : List Float) (us' : List ℕ) (fs' : List Float) : Type 0 where
  pub queue : queue_in n us' ≡ queue_in n us
  pub nodes : area (best_at n) 64 us' ≡ area (best_at n) 64 us
  pub dists : area (best_at n) 64 fs' ≡ area (best_at n) 64 fs
  pub words : length us' ≡ length us
  pub floats : length fs' ≡ length fs

-- the flags and the entries found are as they were
pub record FoundKept (n : ℕ) (us : List ℕ) (fs : List Float) (us' : List ℕ) (fs' : List Float) : Type 0 where
  pub seen : seen_in n us' ≡ seen_in n us
  pub nodes : area (found_at n) 64 us' ≡ area (found_at n) 64 us
  pub dists : area (found_at n) 64 fs' ≡ area (found_at n) 64 fs
  pub words : length us' ≡ length us
  pub floats : length fs' ≡ length fs
