-- What a search that answers Found leaves in the results. Assumes nothing.
use Rattle.std.specs.Prelude.{Some, None, ◌≡◌, true, List, ℕ, ◌≤◌, ◌<◌, min, length, take, drop, get_or, Float}
use Rattle.std.specs.Float.Ieee.{lt}
use Rattle.rules.specs.Answers.{Distance}
use Rattle.rules.specs.declared.Neighbor.{Neighbor}
use Rattle.rules.specs.Loops.{has}
use Rattle.rules.specs.Distance.{query_apart}
use Rattle.rules.specs.Lists.{nodes_of, bits_of}
use Rattle.rules.specs.Search.{farthest}
use Rattle.rules.specs.SearchCall.{SearchLent, SearchOutcome}
use Rattle.facts.specs.Walks.{BestSet}

-- the distance to the query that the call was lent
abbrev pub to_query : SearchLent → ℕ → Distance
to_query l = query_apart l.lanes l.dimension l.query

pub record FoundAnswer (l : SearchLent) (m takings : ℕ) (o : SearchOutcome) : Type 0 where
  -- "m = min(k, root count)", which is 1 or more
  pub count : m ≡ min l.k (length l.roots)
  pub some : 1 ≤ m
  pub few : takings ≤ l.n
  -- "the best set, nearest first, in the first m .. places; further places unchanged"
  pub best : List Neighbor
  pub set : BestSet (to_query l) l.n m best
  pub nodes : take m o.result_nodes ≡ nodes_of best
  pub bits : take m o.result_bits ≡ bits_of best
  pub nodes_rest : drop m o.result_nodes ≡ drop m l.result_nodes
  pub bits_rest : drop m o.result_bits ≡ drop m l.result_bits
  -- no root is nearer than the farthest of the answer, unless it is in it
  pub roots : (i : ℕ) (x : Float) → i < length l.roots → to_query l (get_or l.roots i 0) ≡ Some x → lt x (farthest best) ≡ true → has (get_or l.roots i 0) (nodes_of best) ≡ true
