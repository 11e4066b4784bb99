-- "Search": one walk, over a distance to the query that may be unfit. Assumes nothing.
use Rattle.std.specs.Prelude.{Some, None, Bool, cond, List, [], ◌∷◌, ◌++◌, ℕ, zero, suc, ◌-◌, eqb, ltb, length, take, get_or, set, replicate, Float}
use Rattle.std.specs.Float.Ieee.{lt}
use Rattle.rules.specs.Answers.{Distance}
use Rattle.rules.specs.declared.Neighbor.{Neighbor}
use Rattle.rules.specs.Loops.{through}
use Rattle.rules.specs.Distance.{zero32}
use Rattle.rules.specs.Lists.{neighbor, node_of, nodes_of, insert}

-- The state of the walk. The queue holds every node that ever joined it: the first `takings` of them have been taken, and so expanded.
pub record Walk : Type 0 where
  -- a flag for each node, 1 once it is seen
  pub seen : List ℕ
  -- ascending
  pub best : List Neighbor
  pub queue : List ℕ
  pub takings : ℕ
  -- distances worked out
  pub worked : ℕ

-- "Search gives 10 at the first unfit distance its walk works out."
pub data Going (A : Type 0) : Type 0 where
  on : A → Going A
  unfit_at : ℕ → Going A

unfoldable pub and_then : {A B : Type 0} → Going A → (A → Going B) → Going B
and_then (on a) f = f a
and_then (unfit_at v) f = unfit_at v

-- a node with its distance, put in order into the entries found so far
unfoldable pub works_out : (ℕ → Distance) → ℕ → List Neighbor → Distance → Going (List Neighbor)
works_out apart v found (Some x) = on (insert (neighbor v x) found)
works_out apart v found None = unfit_at v

-- "Work out the roots' distances to the query in the given order; sort."
unfoldable pub roots_found : (ℕ → Distance) → List ℕ → List Neighbor → Going (List Neighbor)
roots_found apart [] found = on found
roots_found apart (v ∷ vs) found = and_then (works_out apart v found (apart v)) (roots_found apart vs)

-- "Mark .. as seen"
unfoldable pub mark : ℕ → List ℕ → List ℕ
mark v seen = set seen v 1

unfoldable pub is_seen : ℕ → List ℕ → Bool
is_seen v seen = eqb (get_or seen v 0) 1

-- "Mark all as seen; the first k (or all, if fewer) enter the best set and a first-in first-out queue."
unfoldable pub started : ℕ → ℕ → List ℕ → List Neighbor → Walk
started n k roots sorted =
    record {
      seen = through mark roots (replicate n 0);
      best = take k sorted;
      queue = nodes_of (take k sorted);
      takings = 0;
      worked = length roots;
    }

-- the unseen members of a row, in order, and the flags
pub record Found : Type 0 where
  pub seen : List ℕ
  pub entries : List Neighbor
  pub worked : ℕ

-- "work out the distance of each unseen member of its row in row order, marking it seen"
unfoldable pub visit : (ℕ → Distance) → ℕ → Found → Going Found
visit apart v f =
    cond (is_seen v f.seen) (on f)
    (and_then (works_out apart v f.entries (apart v))
    (λ (es : List Neighbor). on (record { seen = mark v f.seen; entries = es; worked = suc f.worked })))

unfoldable pub visits : (ℕ → Distance) → List ℕ → Found → Going Found
visits apart [] f = on f
visits apart (v ∷ vs) f = and_then (visit apart v f) (visits apart vs)

-- the distance of the last of an ascending list
unfoldable pub farthest : List Neighbor → Float
farthest xs = (get_or xs (length xs - 1) (neighbor 0 zero32)).distance

-- the best set and the queue while the entries of one row are taken
pub record Taken : Type 0 where
  pub best : List Neighbor
  pub queue : List ℕ

-- "replaces the last of the best set in order and joins the queue"
unfoldable pub joins : Neighbor → Taken → Taken
joins e t = record { best = insert e (take (length t.best - 1) t.best); queue = t.queue ++ (node_of e ∷ []) }

-- "strictly greater than the farthest best"
abbrev pub too_far : Neighbor → List Neighbor → Bool
too_far e best = lt (farthest best) e.distance

-- "Take these in order: the first whose distance is strictly greater than the farthest best ends this row; otherwise it .. joins"
unfoldable pub take_these : List Neighbor → Taken → Taken
take_these [] t = t
take_these (e ∷ es) t = cond (too_far e t.best) t (take_these es (joins e t))

-- the walk when the members of a row have been found
unfoldable pub row_ended : Walk → Found → Walk
row_ended s f =
    let t = take_these f.entries (record { best = s.best; queue = s.queue }) in
    record { seen = f.seen; best = t.best; queue = t.queue; takings = suc s.takings; worked = f.worked }

-- "Take a node from the queue"
unfoldable pub expand : (ℕ → Distance) → (ℕ → List ℕ) → Walk → Going Walk
expand apart rows s =
    and_then (visits apart (rows (get_or s.queue s.takings 0)) (record { seen = s.seen; entries = []; worked = s.worked }))
    (λ (f : Found). on (row_ended s f))

-- until the queue is empty, or as many as the limit have been taken
unfoldable pub walk : (ℕ → Distance) → (ℕ → List ℕ) → ℕ → Walk → Going Walk
walk apart rows zero s = on s
walk apart rows (suc limit) s = cond (ltb s.takings (length s.queue)) (and_then (expand apart rows s) (walk apart rows limit)) (on s)

-- the whole search; no node joins the queue twice, so a limit of n is no limit
unfoldable pub search_of : (ℕ → Distance) → (ℕ → List ℕ) → ℕ → ℕ → List ℕ → Going Walk
search_of apart rows n k roots = and_then (roots_found apart roots []) (λ (sorted : List Neighbor). walk apart rows n (started n k roots sorted))
