-- What the lists of a descent hold, and what an iteration costs. Assumes nothing.
use Rattle.std.specs.Prelude.{◌≡◌, ◌⊎◌, List, [], ◌∷◌, ℕ, ◌+◌, ◌≤◌, ◌<◌, length, Float}
use Rattle.rules.specs.declared.Neighbor.{Neighbor}
use Rattle.rules.specs.Distance.{between}
use Rattle.rules.specs.Lists.{node_of}
use Rattle.rules.specs.Build.{Between}
use Rattle.rules.specs.Rows.{empty_slot}
use Rattle.rules.specs.Refusals.{passed, decide}
use Rattle.rules.specs.Descent.{Context, Descent, list_at, begun, passes, iterated}
use Rattle.rules.specs.Places.{lists_in}
use Rattle.rules.specs.DescentPlaces.{descent_in}
use Rattle.rules.specs.DescentCall.{DescentLent, begin_table, begin_rule, iterate_rule}
use Rattle.lists.specs.All.{All}
use Rattle.exact.specs.Exact.{Other}
use Rattle.descent_kept.specs.Formed.{Each, Below, Formed}

-- an entry stands in a list
pub data In (e : Neighbor) : List Neighbor → Type 0 where
  here : {es : List Neighbor} → In e (e ∷ es)
  later : {x : Neighbor} {es : List Neighbor} → In e es → In e (x ∷ es)

-- an entry that an update brings to u's list: it "offers each node to the other's list unless they are equal"
pub record Paired (d : Between) (n u : ℕ) (e : Neighbor) : Type 0 where
  pub other : Other n u (node_of e)
  pub distance : e.distance ≡ d u (node_of e)

-- ---- one iteration, of n lists with any entries

-- "each of a node's four context lists .. with nodes below n"
pub record Legal (n : ℕ) (x : Descent) : Type 0 where
  pub nodes : length x.lists ≡ n
  pub members : All (Each (Below n)) x.contexts

-- an entry that stood in u's list before, or has its pair's distance
abbrev pub Added : Between → ℕ → Descent → ℕ → Neighbor → Type 0
Added d n x u e = In e (list_at x.lists u) ⊎ Paired d n u e

-- how many pairs meet
unfoldable pub pairs_passed : List Context → ℕ
pairs_passed [] = 0
pairs_passed (c ∷ cs) = length (passes c) + pairs_passed cs

pub record Iteration (d : Between) (draws : List ℕ) (n k s : ℕ) (x : Descent) : Type 0 where
  pub added : (u : ℕ) → u < n → All (Added d n x u) (list_at (iterated d draws n k s x).descent.lists u)
  -- "counts 1 when unequal: their total is the cost"
  pub cost : (iterated d draws n k s x).cost ≤ pairs_passed x.contexts

-- ---- begin and any number of iterations, each with its draws and its s

pub data Reached (d : Between) (n k : ℕ) : Descent → Type 0 where
  first : (draws : List ℕ) (s : ℕ) → s ≤ 64 → Reached d n k (begun draws n k s)
  again : (draws : List ℕ) (s : ℕ) {x : Descent} → s ≤ 64 → Reached d n k x → Reached d n k (iterated d draws n k s x).descent

-- "an unfilled one is (n, 0x7F7FFFFF)"; any other has its pair's distance
abbrev pub Known : Between → ℕ → ℕ → Neighbor → Type 0
Known d n u e = (e ≡ empty_slot n) ⊎ Paired d n u e

pub record Standing (d : Between) (n k : ℕ) (x : Descent) : Type 0 where
  -- "k entries, ascending" among the rest
  pub formed : Formed n k x
  pub known : (u : ℕ) → u < n → All (Known d n u) (list_at x.lists u)

pub record DescentFacts (d : Between) : Type 0 where
  pub iteration : (draws : List ℕ) (n k s : ℕ) (x : Descent) → Legal n x → Iteration d draws n k s x
  pub reached : (n k : ℕ) (x : Descent) → 0 < n → 1 ≤ k → k ≤ 64 → Reached d n k x → Standing d n k x

-- ---- the calls

-- the descent that an iteration is lent, and the lists that it leaves
abbrev pub lent_descent : DescentLent → Descent
lent_descent l = descent_in l.n l.k l.state_u l.state_f

abbrev pub left_lists : DescentLent → List (List Neighbor)
left_lists l = lists_in l.n l.k (iterate_rule l).left.state_u (iterate_rule l).left.state_f

-- one iteration, of any well-formed state
pub record IterateFacts (l : DescentLent) : Type 0 where
  pub added : (u : ℕ) → u < l.n → All (Added (between l.lanes l.dimension) l.n (lent_descent l) u) (list_at (left_lists l) u)
  pub cost : (iterate_rule l).said.cost ≤ pairs_passed (lent_descent l).contexts

-- what the calls of one descent share
pub record Game : Type 0 where
  pub dimension : ℕ
  pub n : ℕ
  pub lanes : List Float
  pub k : ℕ

abbrev pub lent : Game → ℕ → List ℕ → List ℕ → List Float → List ℕ → List Float → DescentLent
lent g s draws us fs ws gs =
    record {
      dimension = g.dimension;
      n = g.n;
      lanes = g.lanes;
      k = g.k;
      s = s;
      draws = draws;
      state_u = us;
      state_f = fs;
      scratch_u = ws;
      scratch_f = gs;
    }

-- the states that a begin and then iterations leave, refused ones among these
pub data Called (g : Game) : List ℕ → List Float → Type 0 where
  began : (s : ℕ) (draws us : List ℕ) (fs : List Float) (ws : List ℕ) (gs : List Float)
      → decide (begin_table (lent g s draws us fs ws gs)) ≡ passed
      → Called g (begin_rule (lent g s draws us fs ws gs)).left.state_u (begin_rule (lent g s draws us fs ws gs)).left.state_f
  iterates : (s : ℕ) (draws : List ℕ) {us : List ℕ} {fs : List Float} (ws : List ℕ) (gs : List Float) → Called g us fs
      → Called g (iterate_rule (lent g s draws us fs ws gs)).left.state_u (iterate_rule (lent g s draws us fs ws gs)).left.state_f

-- each entry of the lists in such a state is unfilled or has its pair's distance
abbrev pub CalledFacts : Game → Type 0
CalledFacts g =
    (us : List ℕ) (fs : List Float) → Called g us fs → (u : ℕ) → u < g.n
    → All (Known (between g.lanes g.dimension) g.n u) (list_at (lists_in g.n g.k us fs) u)
