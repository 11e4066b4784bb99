-- What a search that meets no unfit distance leaves, over any distance to the query whose answers are fit. Assumes nothing.
use Rattle.std.specs.Prelude.{Some, None, ◌≡◌, true, List, ℕ, ◌≤◌, ◌<◌, min, T, length, get_or, Float}
use Rattle.std.specs.Float.{binary32}
use Rattle.std.specs.Float.Ieee.{fits, lt}
use Rattle.rules.specs.Answers.{Distance}
use Rattle.rules.specs.declared.Neighbor.{Neighbor}
use Rattle.rules.specs.Loops.{has}
use Rattle.rules.specs.Distance.{fit}
use Rattle.rules.specs.Lists.{node_of, nodes_of}
use Rattle.rules.specs.Offers.{ascending}
use Rattle.rules.specs.Search.{Walk, is_seen, farthest}
use Rattle.lists.specs.All.{All}
use Rattle.expand.specs.Queue.{ones}
use Rattle.facts.specs.Different.{different}
use Rattle.facts.specs.Rising.{rising}

-- a distance to the query: what its answers carry is in binary32, and "its bits, as a whole number, are at most 0x7F7FFFFE"
pub record FitAnswers (apart : ℕ → Distance) : Type 0 where
  pub single : (v : ℕ) (x : Float) → apart v ≡ Some x → T (fits binary32 x)
  pub fits : (v : ℕ) (x : Float) → apart v ≡ Some x → fit x ≡ true

-- an entry: a node below n, with its distance to the query
pub record Measured (apart : ℕ → Distance) (n : ℕ) (e : Neighbor) : Type 0 where
  pub below : node_of e < n
  pub distance : apart (node_of e) ≡ Some e.distance

-- "Answer: the best set, nearest first"
pub record BestSet (apart : ℕ → Distance) (n m : ℕ) (best : List Neighbor) : Type 0 where
  -- "in the first m .. places"
  pub long : length best ≡ m
  pub ascends : ascending best ≡ true
  pub rises : rising best ≡ true
  pub different : different (nodes_of best) ≡ true
  pub measured : All (Measured apart n) best

pub record Walked (apart : ℕ → Distance) (n k : ℕ) (roots : List ℕ) (s : Walk) : Type 0 where
  -- "m = min(k, root count)"
  pub answer : BestSet apart n (min k (length roots)) s.best
  -- each node that joined the queue was taken from it, and none joined twice
  pub taken : s.takings ≡ length s.queue
  pub once : different s.queue ≡ true
  pub takings : s.takings ≤ n
  -- a distance is worked out for each node that is seen, once
  pub worked : s.worked ≡ ones s.seen
  pub works : s.worked ≤ n
  pub roots_seen : (i : ℕ) → i < length roots → is_seen (get_or roots i 0) s.seen ≡ true
  -- no node whose distance was worked out is nearer than the farthest best, unless it is in the best set
  pub nearest : (v : ℕ) (x : Float) → v < n → is_seen v s.seen ≡ true → apart v ≡ Some x → lt x (farthest s.best) ≡ true → has v (nodes_of s.best) ≡ true
