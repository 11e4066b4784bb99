-- An iteration's updates give the same lists in any order: what is proved. Assumes nothing.
use Rattle.std.specs.Prelude.{◌≡◌, List, [], ◌∷◌, ◌++◌, ℕ, ◌<◌, length}
use Rattle.rules.specs.declared.Neighbor.{Neighbor}
use Rattle.rules.specs.Loops.{through}
use Rattle.rules.specs.Lists.{least}
use Rattle.rules.specs.Distance.{between}
use Rattle.rules.specs.Build.{Between}
use Rattle.rules.specs.Descent.{Context, Descent, list_at, Pair, passes, update, iterated}
use Rattle.rules.specs.Places.{lists_in}
use Rattle.rules.specs.DescentPlaces.{descent_in}
use Rattle.rules.specs.DescentCall.{DescentLent, iterate_rule}
use Rattle.lists.specs.Ascending.{AllHoldable, Ascending, Perm}
use Rattle.orders.specs.Demand3.{offers_of}

-- what pairs offer to w's list
unfoldable pub offered_by : Between → ℕ → List Pair → List Neighbor
offered_by d w [] = []
offered_by d w (p ∷ ps) = offers_of d w p.u p.v ++ offered_by d w ps

-- the pairs that meet in an iteration
unfoldable pub meetings : List Context → List Pair
meetings [] = []
meetings (c ∷ cs) = passes c ++ meetings cs

-- n ascending lists of k entries
pub record ListsOf (n k : ℕ) (ls : List (List Neighbor)) : Type 0 where
  pub nodes : length ls ≡ n
  pub long : (w : ℕ) → w < n → length (list_at ls w) ≡ k
  pub held : (w : ℕ) → w < n → AllHoldable (list_at ls w)
  pub ascends : (w : ℕ) → w < n → Ascending (list_at ls w)

pub record AnyOrder (d : Between) (n k : ℕ) (ls : List (List Neighbor)) : Type 0 where
  -- updates end in the least k of what each list held and what was offered to it
  pub lists : (ps : List Pair) (w : ℕ) → w < n → list_at (through (update d k) ps ls) w ≡ least k (list_at ls w ++ offered_by d w ps)
  -- so their order does not matter
  pub same : (ps qs : List Pair) → Perm ps qs → through (update d k) ps ls ≡ through (update d k) qs ls
  -- and those of an iteration are such updates
  pub iteration : (draws : List ℕ) (s : ℕ) (x : Descent) → x.lists ≡ ls
      → (iterated d draws n k s x).descent.lists ≡ through (update d k) (meetings x.contexts) ls

-- ---- an iteration on the lent numbers

-- the lists that an iteration was lent, the pairs that meet in it, and the lists that it leaves
abbrev pub lent_lists : DescentLent → List (List Neighbor)
lent_lists l = lists_in l.n l.k l.state_u l.state_f

abbrev pub met_pairs : DescentLent → List Pair
met_pairs l = meetings (descent_in l.n l.k l.state_u l.state_f).contexts

abbrev pub left_lists : DescentLent → List (List Neighbor)
left_lists l = lists_in l.n l.k (iterate_rule l).left.state_u (iterate_rule l).left.state_f

pub record IterationOrder (l : DescentLent) : Type 0 where
  -- each list is the least k of what it held and what was offered to it
  pub lists : (w : ℕ) → w < l.n → list_at (left_lists l) w ≡ least l.k (list_at (lent_lists l) w ++ offered_by (between l.lanes l.dimension) w (met_pairs l))
  -- the same pairs in any other order would leave the same lists
  pub same : (ps : List Pair) → Perm (met_pairs l) ps → left_lists l ≡ through (update (between l.lanes l.dimension) l.k) ps (lent_lists l)
