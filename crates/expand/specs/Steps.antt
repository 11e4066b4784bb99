-- What each step of the walk leaves in scratch. Assumes nothing.
use Rattle.std.specs.Prelude.{Result, Ok, Err, Some, None, ◌≡◌, cond, List, [], ◌∷◌, ℕ, ◌+◌, ◌≤◌, take, Float}
use Rattle.std.specs.Float.Ieee.{lt}
use Rattle.rules.specs.Answers.{Distance}
use Rattle.rules.specs.declared.NodeId.{NodeId}
use Rattle.rules.specs.declared.Neighbor.{Neighbor}
use Rattle.rules.specs.Lists.{neighbor, insert}
use Rattle.rules.specs.Search.{Going, on, unfit_at, and_then, Found, Taken, mark, is_seen, joins, take_these}
use Rattle.expand.specs.Areas.{seen_in, queue_in, best_in, found_in, QueueKept, FoundKept}

-- how many, or the node whose distance is unfit
abbrev pub Counted : Type 0
Counted = Result ℕ NodeId

-- the rules `works_out`, `visit` and `visits`, where entries beyond `far` are passed over and nothing is counted
unfoldable pub works_near : Float → ℕ → List Neighbor → Distance → Going (List Neighbor)
works_near far v found (Some x) = on (cond (lt far x) found (insert (neighbor v x) found))
works_near far v found None = unfit_at v

unfoldable pub visit_near : Float → (ℕ → Distance) → ℕ → Found → Going Found
visit_near far apart v f =
    cond (is_seen v f.seen) (on f)
    (and_then (works_near far v f.entries (apart v))
    (λ (es : List Neighbor). on (record { seen = mark v f.seen; entries = es; worked = 0 })))

unfoldable pub visits_near : Float → (ℕ → Distance) → List ℕ → Found → Going Found
visits_near far apart [] f = on f
visits_near far apart (v ∷ vs) f = and_then (visit_near far apart v f) (visits_near far apart vs)

-- the flags and the entries found
abbrev pub found : ℕ → List ℕ → List Float → ℕ → Found
found n us fs len = record { seen = seen_in n us; entries = found_in n us fs len; worked = 0 }

unfoldable pub found_after : ℕ → List ℕ → List Float → Counted → Going Found
found_after n us fs (Ok len) = on (found n us fs len)
found_after n us fs (Err v) = unfit_at v.0

-- the entries alone
unfoldable pub entries_after : ℕ → List ℕ → List Float → Counted → Going (List Neighbor)
entries_after n us fs (Ok len) = on (found_in n us fs len)
entries_after n us fs (Err v) = unfit_at v.0

unfoldable pub at_most : ℕ → Counted → Type 0
at_most high (Ok len) = len ≤ high
at_most high (Err v) = Unit

pub record WorkedOut (far : Float) (apart : ℕ → Distance) (n v len : ℕ) (us : List ℕ) (fs : List Float) (us' : List ℕ) (fs' : List Float) (r : Counted) : Type 0 where
  pub entries : entries_after n us' fs' r ≡ works_near far v (found_in n us fs len) (apart v)
  pub seen : seen_in n us' ≡ seen_in n us
  pub kept : QueueKept n us fs us' fs'
  pub few : at_most (len + 1) r

pub record Visited (far : Float) (apart : ℕ → Distance) (n : ℕ) (row : List ℕ) (len more : ℕ) (us : List ℕ) (fs : List Float) (us' : List ℕ) (fs' : List Float) (r : Counted) : Type 0 where
  pub found : found_after n us' fs' r ≡ visits_near far apart row (found n us fs len)
  pub kept : QueueKept n us fs us' fs'
  pub few : at_most (len + more) r

-- ---- the best set and the queue

abbrev pub taken : ℕ → List ℕ → List Float → ℕ → ℕ → Taken
taken n us fs m tail = record { best = best_in n us fs m; queue = take tail (queue_in n us) }

pub record Joined (n m tail : ℕ) (e : Neighbor) (us : List ℕ) (fs : List Float) (us' : List ℕ) (fs' : List Float) (r : ℕ) : Type 0 where
  pub taken : taken n us' fs' m r ≡ joins e (taken n us fs m tail)
  pub kept : FoundKept n us fs us' fs'
  pub count : r ≡ tail + 1

pub record TakenIn (n m len tail : ℕ) (us : List ℕ) (fs : List Float) (us' : List ℕ) (fs' : List Float) (r : ℕ) : Type 0 where
  pub taken : taken n us' fs' m r ≡ take_these (found_in n us fs len) (taken n us fs m tail)
  pub kept : FoundKept n us fs us' fs'
  pub most : r ≤ tail + len
