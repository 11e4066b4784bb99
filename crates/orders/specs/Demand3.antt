-- The request's demand 3:
--
--   "Open 1 to 64 candidate pairs on a well-formed set of lists, all their distances fit. A node paired with itself offers nothing. Let the
--   pairs take their eight locked steps in any order, each pair's own steps in sequence, the state lent to each call as the last one left
--   it. When all are finished, every list holds exactly the least k, by distance and then number, of what it held and what was offered to
--   it, repeats counted. So no order of the heads changes a list. Which offers were taken up may depend on the order, and is reported as
--   01's step rules say."
--
-- Each sentence again, above what renders it. `proofs/Demand3.antt` proves `Demand3 l` from `Asked l`, for every l. Assumes nothing.
use Rattle.std.specs.Prelude.{Some, None, ◌≡◌, true, false, cond, List, [], ◌∷◌, ◌++◌, ℕ, ◌+◌, ◌*◌, ◌≤◌, ◌<◌, eqb, length, get_or, replicate, Float}
use Rattle.rules.specs.declared.Neighbor.{Neighbor}
use Rattle.rules.specs.Loops.{each, through}
use Rattle.rules.specs.Distance.{zero32, nodes_apart, between}
use Rattle.rules.specs.Lists.{neighbor, least}
use Rattle.rules.specs.Numbers.{most, most_taught, outside}
use Rattle.rules.specs.Refusals.{no_refusal, code, job_count, job_u, job_v}
use Rattle.rules.specs.Calls.{taught_scratch, relay_words, relay_floats, odd}
use Rattle.rules.specs.Offers.{lists_formed}
use Rattle.rules.specs.Build.{Between}
use Rattle.rules.specs.Descent.{list_at}
use Rattle.rules.specs.Places.{lists_in}
use Rattle.rules.specs.RelayCall.{OpenLent, open_rule, MoveOutcome, move_rule, CloseOutcome, close_rule}
use Rattle.encoded.specs.Words.{Binary32}
use Rattle.orders.specs.Runs.{count}
use Rattle.orders.specs.Least.{IsLeast}

-- ---- "Open 1 to 64 candidate pairs on a well-formed set of lists, all their distances fit."

-- the number of pairs, the nodes of pair i, and their distance
abbrev pub pairs : OpenLent → ℕ
pairs l = job_count l.jobs

abbrev pub u : OpenLent → ℕ → ℕ
u l i = job_u l.jobs i

abbrev pub v : OpenLent → ℕ → ℕ
v l i = job_v l.jobs i

abbrev pub apart : OpenLent → ℕ → Float
apart l i = between l.lanes l.dimension (u l i) (v l i)

-- sizes within their ranges, and lent buffers of the right lengths
pub record Lent (l : OpenLent) : Type 0 where
  pub dimension : outside 1 most l.dimension ≡ false
  pub n : outside 2 most_taught l.n ≡ false
  pub k : outside 1 most l.k ≡ false
  pub lanes : length l.lanes ≡ l.n * l.dimension
  pub nodes : length l.nodes ≡ l.n * l.k
  pub distances : length l.distances ≡ l.n * l.k
  pub jobs : odd (length l.jobs) ≡ false
  pub words : length l.state_u ≡ relay_words l.n l.k
  pub floats : length l.state_f ≡ relay_floats l.n l.k
  pub scratch_words : taught_scratch l.n ≤ length l.scratch_u
  pub scratch_floats : taught_scratch l.n ≤ length l.scratch_f

pub record Asked (l : OpenLent) : Type 0 where
  pub lent : Lent l
  -- "1 to 64 candidate pairs", of nodes below n
  pub some : 1 ≤ pairs l
  pub few : pairs l ≤ 64
  pub us : (i : ℕ) → i < pairs l → u l i < l.n
  pub vs : (i : ℕ) → i < pairs l → v l i < l.n
  -- "a well-formed set of lists"; an f32 slice holds binary32 values
  pub lists : lists_formed l.n (lists_in l.n l.k l.nodes l.distances) ≡ true
  pub binary : Binary32 l.distances
  -- "all their distances fit": that of a pair of two nodes is what open works out
  pub fit : (i : ℕ) → i < pairs l → eqb (u l i) (v l i) ≡ false → nodes_apart l.lanes l.dimension (u l i) (v l i) ≡ Some (apart l i)

-- what w's list held
abbrev pub held : OpenLent → ℕ → List Neighbor
held l w = list_at (lists_in l.n l.k l.nodes l.distances) w

-- ---- "A node paired with itself offers nothing."

-- what nodes u and v, at d of them, offer to w's list: v to u's, and u to v's
unfoldable pub offers_of : Between → ℕ → ℕ → ℕ → List Neighbor
offers_of d w u v = cond (eqb u v) [] (cond (eqb u w) (neighbor v (d u v) ∷ []) [] ++ cond (eqb v w) (neighbor u (d u v) ∷ []) [])

-- what pair i offers to it
abbrev pub offers : OpenLent → ℕ → ℕ → List Neighbor
offers l w i = offers_of (between l.lanes l.dimension) w (u l i) (v l i)

-- what was offered to it
unfoldable pub offered : OpenLent → ℕ → List Neighbor
offered l w = each (offers l w) (pairs l)

-- ---- "Let the pairs take their eight locked steps in any order, each pair's own steps in sequence, the state lent to each call as the last one left it."

pub record State : Type 0 where
  pub words : List ℕ
  pub floats : List Float

-- as open left it
abbrev pub at_opening : OpenLent → State
at_opening l = record { words = (open_rule l).state_u; floats = (open_rule l).state_f }

-- a move of pair i, the next of its steps, lent a state; and the state as it leaves it
abbrev pub move_of : OpenLent → ℕ → State → MoveOutcome
move_of l i s = move_rule (record { n = l.n; k = l.k; job = i; state_u = s.words; state_f = s.floats })

unfoldable pub after_move : OpenLent → ℕ → State → State
after_move l i s = record { words = (move_of l i s).state_u; floats = (move_of l i s).state_f }

-- an order: the pair that each move names. The state after all its moves
unfoldable pub after : OpenLent → List ℕ → State
after l order = through (after_move l) order (at_opening l)

-- it takes all pairs to their end: each is named eight times, or more
abbrev pub Finishes : OpenLent → List ℕ → Type 0
Finishes l order = (i : ℕ) → i < pairs l → 8 ≤ count i order

-- one such order: each pair's eight steps, pair after pair
abbrev pub in_turn : OpenLent → List ℕ
in_turn l = each (λ (i : ℕ). replicate 8 i) (pairs l)

-- ---- "When all are finished, every list holds exactly the least k, by distance and then number, of what it held and what was offered to it, repeats counted."

-- what is lent to a close to write to
pub record Room (l : OpenLent) : Type 0 where
  pub nodes : List ℕ
  pub distances : List Float
  pub reports : List ℕ
  pub nodes_long : length nodes ≡ l.n * l.k
  pub distances_long : length distances ≡ l.n * l.k
  pub reports_long : length reports ≡ 128

-- a close, lent the state as the last move left it
abbrev pub closed : (l : OpenLent) → List ℕ → Room l → CloseOutcome
closed l order c =
    close_rule
    (record {
      n = l.n;
      k = l.k;
      state_u = (after l order).words;
      state_f = (after l order).floats;
      nodes = c.nodes;
      distances = c.distances;
      reports = c.reports;
    })

-- w's list as it writes it
abbrev pub listed : (l : OpenLent) → List ℕ → Room l → ℕ → List Neighbor
listed l order c w = list_at (lists_in l.n l.k (closed l order c).nodes (closed l order c).distances) w

-- an entry at a place of a list
abbrev pub StandsIn : List Neighbor → ℕ → Neighbor → Type 0
StandsIn list p e = (p < length list) × (get_or list p (neighbor 0 zero32) ≡ e)

pub record Finished (l : OpenLent) (order : List ℕ) (c : Room l) : Type 0 where
  pub answers : (closed l order c).said ≡ no_refusal
  pub lists : (w : ℕ) → w < l.n → listed l order c w ≡ least l.k (held l w ++ offered l w)
  -- what the rulebook calls the least k, said without its sort
  pub exactly : (w : ℕ) → w < l.n → IsLeast l.k (held l w ++ offered l w) (listed l order c w)
  -- "Which offers were taken up may depend on the order, and is reported as 01's step rules say.": one that ends in its list is reported
  pub reported_first : (i p : ℕ) → i < pairs l → eqb (u l i) (v l i) ≡ false → StandsIn (listed l order c (u l i)) p (neighbor (v l i) (apart l i))
      → get_or (closed l order c).reports (2 * i) 0 ≡ 1
  pub reported_second : (i p : ℕ) → i < pairs l → eqb (u l i) (v l i) ≡ false → StandsIn (listed l order c (v l i)) p (neighbor (u l i) (apart l i))
      → get_or (closed l order c).reports (2 * i + 1) 0 ≡ 1

-- ---- the whole

pub record Demand3 (l : OpenLent) : Type 0 where
  -- "Open"
  pub opens : (open_rule l).said ≡ no_refusal
  -- "their eight locked steps in any order": whatever was moved before, a move of a pair succeeds eight times, and is refused from then on
  pub succeeds : (order : List ℕ) (i : ℕ) → i < pairs l → count i order < 8 → (move_of l i (after l order)).said ≡ no_refusal
  pub is_over : (order : List ℕ) (i : ℕ) → i < pairs l → 8 ≤ count i order → (move_of l i (after l order)).said ≡ code 13 i 0
  pub exists : Finishes l (in_turn l)
  -- "When all are finished", and no sooner: a close that answers has found them so
  pub finishes : (order : List ℕ) (c : Room l) → (closed l order c).said ≡ no_refusal → Finishes l order
  pub finished : (order : List ℕ) → Finishes l order → (c : Room l) → Finished l order c
  -- "So no order of the heads changes a list.", whatever stood where a close writes
  pub same_nodes : (order other : List ℕ) → Finishes l order → Finishes l other → (c e : Room l) → (closed l order c).nodes ≡ (closed l other e).nodes
  pub same_distances : (order other : List ℕ) → Finishes l order → Finishes l other → (c e : Room l) → (closed l order c).distances ≡ (closed l other e).distances
