-- What the walk's start and the whole walk leave in scratch. Assumes nothing.
use Rattle.std.specs.Prelude.{Ok, Err, ◌≡◌, false, cond, List, [], ℕ, ◌+◌, ◌-◌, ◌≤◌, ◌<◌, min, ltb, length, take, get_or, replicate, Float}
use Rattle.std.specs.Float.{nan}
use Rattle.rules.specs.Answers.{Distance}
use Rattle.rules.specs.declared.Neighbor.{Neighbor}
use Rattle.rules.specs.Loops.{through, has}
use Rattle.rules.specs.Lists.{nodes_of}
use Rattle.rules.specs.Rows.{empty_distance}
use Rattle.rules.specs.Search.{Walk, Going, on, unfit_at, mark, roots_found, started}
use Rattle.expand.specs.Steps.{Counted}
use Rattle.buffers.specs.Area.{area}
use Rattle.lists.specs.Ascending.{AllHoldable, Ascending}
use Rattle.expand.specs.Areas.{found_at, seen_in, queue_in, best_in, found_in, BestSound, FoundKept}
use Rattle.expand.specs.Queue.{QueueSound, walk_in}

-- roots that row 7 passes
pub record Roots (n : ℕ) (roots : List ℕ) : Type 0 where
  pub some : 1 ≤ length roots
  pub few : length roots ≤ 64
  pub below : (i : ℕ) → i < length roots → get_or roots i 0 < n
  pub different : (i : ℕ) → i < length roots → has (get_or roots i 0) (take i roots) ≡ false

-- the distance beyond which no root enters
unfoldable pub bound : ℕ → List Float → ℕ → ℕ → Float
bound n fs len k = cond (ltb len k) empty_distance (get_or fs (n + n + 64 + k - 1) nan)

-- the first k found are the first k of all
unfoldable pub RootsIn : ℕ → ℕ → List ℕ → Going (List Neighbor) → List ℕ → List Float → Counted → Type 0
RootsIn n k roots goal us fs (Ok len) =
    (sorted : List Neighbor) × (goal ≡ on sorted) × (length sorted ≡ length roots) × (take k sorted ≡ take k (found_in n us fs len)) × AllHoldable (found_in n us fs len)
    × Ascending (found_in n us fs len) × (len ≤ length roots)
RootsIn n k roots goal us fs (Err v) = goal ≡ unfit_at v.0

pub record RootsFound (apart : ℕ → Distance) (n k : ℕ) (roots us : List ℕ) (fs : List Float) (us' : List ℕ) (fs' : List Float) (r : Counted) : Type 0 where
  pub found : RootsIn n k roots (roots_found apart roots []) us' fs' r
  pub words : length us' ≡ length us
  pub floats : length fs' ≡ length fs

-- only the roots are seen
pub record Marked (n : ℕ) (roots us us' : List ℕ) : Type 0 where
  pub seen : seen_in n us' ≡ through mark roots (replicate n 0)
  pub nodes : area (found_at n) 64 us' ≡ area (found_at n) 64 us
  pub words : length us' ≡ length us

-- the first m found stand in the best set and in the queue
pub record Entered (n m : ℕ) (us : List ℕ) (fs : List Float) (us' : List ℕ) (fs' : List Float) : Type 0 where
  pub best : best_in n us' fs' m ≡ found_in n us fs m
  pub queue : take m (queue_in n us') ≡ nodes_of (found_in n us fs m)
  pub kept : FoundKept n us fs us' fs'

unfoldable pub StartsIn : ℕ → ℕ → List ℕ → Going (List Neighbor) → List ℕ → List Float → Counted → Type 0
StartsIn n k roots goal us fs (Ok m) =
    (sorted : List Neighbor) × (goal ≡ on sorted) × (walk_in n us fs m m 0 (length roots) ≡ started n k roots sorted) × QueueSound n us m × (m ≡ min k (length roots))
    × BestSound n us fs m
StartsIn n k roots goal us fs (Err v) = goal ≡ unfit_at v.0

pub record StartedIn (apart : ℕ → Distance) (n k : ℕ) (roots us : List ℕ) (fs : List Float) (us' : List ℕ) (fs' : List Float) (r : Counted) : Type 0 where
  pub starts : StartsIn n k roots (roots_found apart roots []) us' fs' r
  pub words : length us' ≡ length us
  pub floats : length fs' ≡ length fs

-- the walk ended: how many were taken, and the best set
unfoldable pub EndsIn : ℕ → ℕ → Going Walk → List ℕ → List Float → Counted → Type 0
EndsIn n m goal us fs (Ok takings) = (s : Walk) × (goal ≡ on s) × (s.takings ≡ takings) × (s.best ≡ best_in n us fs m)
EndsIn n m goal us fs (Err v) = goal ≡ unfit_at v.0

pub record WalkedIn (goal : Going Walk) (n m : ℕ) (us : List ℕ) (fs : List Float) (us' : List ℕ) (fs' : List Float) (r : Counted) : Type 0 where
  pub ends : EndsIn n m goal us' fs' r
  pub words : length us' ≡ length us
  pub floats : length fs' ≡ length fs
