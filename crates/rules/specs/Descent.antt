-- "Descent": begin and one iteration, over a distance of two nodes. Assumes nothing.
use Rattle.std.specs.Prelude.{Bool, true, false, cond, not, ◌&&◌, List, [], ◌∷◌, ◌++◌, map, ℕ, zero, suc, ◌+◌, ◌-◌, ◌*◌, ◌%◌, eqb, ltb, length, take, drop, get_or, set, replicate, Float}
use Rattle.rules.specs.declared.Neighbor.{Neighbor}
use Rattle.rules.specs.Loops.{turns, through, each}
use Rattle.rules.specs.Lists.{neighbor, node_of}
use Rattle.rules.specs.Build.{Between}
use Rattle.rules.specs.Offers.{unfilled, offer}

-- a node's context: "nn_new_neighbors, nn_old_neighbors, reversed_new_neighbors, reversed_old_neighbors"
pub record Context : Type 0 where
  pub new : List ℕ
  pub old : List ℕ
  pub reversed_new : List ℕ
  pub reversed_old : List ℕ

pub record Descent : Type 0 where
  pub lists : List (List Neighbor)
  pub contexts : List Context
  -- a flag for each pair: (i, j) at place i times n + j
  pub visited : List Bool

abbrev pub list_at : List (List Neighbor) → ℕ → List Neighbor
list_at lists u = get_or lists u []

-- ---- begin

-- a draw modulo n
abbrev pub drawn : List ℕ → ℕ → ℕ → ℕ
drawn draws n at = get_or draws at 0 % n

-- s draws modulo n from a place on
unfoldable pub draws_from : List ℕ → ℕ → ℕ → ℕ → List ℕ
draws_from draws n at s = each (λ (j : ℕ). drawn draws n (at + j) ∷ []) s

-- "For each node rising, s new and then s reversed-new entries, each a draw modulo n"; "old lists empty"
unfoldable pub begin_context : List ℕ → ℕ → ℕ → ℕ → Context
begin_context draws n s i =
    record {
      new = draws_from draws n (2 * s * i) s;
      old = [];
      reversed_new = draws_from draws n (2 * s * i + s) s;
      reversed_old = [];
    }

-- "Begin: unfilled lists, old lists empty, no pair visited."
unfoldable pub begun : List ℕ → ℕ → ℕ → ℕ → Descent
begun draws n k s =
    record {
      lists = replicate n (unfilled n k);
      contexts = each (λ (i : ℕ). begin_context draws n s i ∷ []) n;
      visited = replicate (n * n) false;
    }

-- ---- an iteration: the pairs that meet

pub record Pair : Type 0 where
  pub u : ℕ
  pub v : ℕ

abbrev pub pair : ℕ → ℕ → Pair
pair u v = record { u = u; v = v }

-- each of xs with each of ys
unfoldable pub cross : List ℕ → List ℕ → List Pair
cross [] ys = []
cross (x ∷ xs) ys = map (pair x) ys ++ cross xs ys

-- "new with new from the same place on"
unfoldable pub own_pairs : List ℕ → List Pair
own_pairs [] = []
own_pairs (x ∷ xs) = map (pair x) (x ∷ xs) ++ own_pairs xs

-- "later places only with smaller node first"
unfoldable pub rising_with : ℕ → List ℕ → List Pair
rising_with x [] = []
rising_with x (y ∷ ys) = cond (ltb x y) (pair x y ∷ rising_with x ys) (rising_with x ys)

unfoldable pub rising_pairs : List ℕ → List Pair
rising_pairs [] = []
rising_pairs (x ∷ xs) = rising_with x xs ++ rising_pairs xs

-- "new with new ..; new x old; reversed-new pairs, ..; reversed-new x reversed-old; new x reversed-old; new x reversed-new; old x reversed-new"
unfoldable pub passes : Context → List Pair
passes c =
    own_pairs c.new
    ++ (cross c.new c.old
    ++ (rising_pairs c.reversed_new
    ++ (cross c.reversed_new c.reversed_old
    ++ (cross c.new c.reversed_old ++ (cross c.new c.reversed_new ++ cross c.old c.reversed_new)))))

-- ---- an iteration: updates and marks

-- one offer of node v to node u's list
unfoldable pub offer_to : ℕ → ℕ → ℕ → Float → List (List Neighbor) → List (List Neighbor)
offer_to k u v x lists = set lists u (offer k (neighbor v x) (list_at lists u))

-- "An update offers each node to the other's list unless they are equal"
unfoldable pub update : Between → ℕ → Pair → List (List Neighbor) → List (List Neighbor)
update d k p lists =
    cond (eqb p.u p.v) lists (offer_to k p.v p.u (d p.u p.v) (offer_to k p.u p.v (d p.u p.v) lists))

unfoldable pub visit : ℕ → ℕ → ℕ → List Bool → List Bool
visit n i j visited = set visited (i * n + j) true

unfoldable pub is_visited : ℕ → ℕ → ℕ → List Bool → Bool
is_visited n i j visited = get_or visited (i * n + j) false

unfoldable pub unvisit : ℕ → ℕ → ℕ → List Bool → List Bool
unvisit n i j visited = set visited (i * n + j) false

pub record Met : Type 0 where
  pub lists : List (List Neighbor)
  pub visited : List Bool
  pub cost : ℕ

-- "update and mark visited both ways"; "counts 1 when unequal: their total is the cost"
unfoldable pub meet : Between → ℕ → ℕ → Pair → Met → Met
meet d n k p m =
    record {
      lists = update d k p m.lists;
      visited = visit n p.v p.u (visit n p.u p.v m.visited);
      cost = cond (eqb p.u p.v) m.cost (suc m.cost);
    }

-- "for each node rising, over its context"
unfoldable pub meet_all : Between → ℕ → ℕ → List Context → Met → Met
meet_all d n k contexts m = through (λ (c : Context) (s : Met). through (meet d n k) (passes c) s) contexts m

-- ---- an iteration: new and old

-- "each filled list entry, in order, becomes new when its pair is visited, else old"
unfoldable pub new_of : ℕ → ℕ → List Bool → List Neighbor → List ℕ
new_of n i visited [] = []
new_of n i visited (e ∷ es) =
    cond (not (eqb (node_of e) n) && is_visited n i (node_of e) visited) (node_of e ∷ new_of n i visited es) (new_of n i visited es)

unfoldable pub old_of : ℕ → ℕ → List Bool → List Neighbor → List ℕ
old_of n i visited [] = []
old_of n i visited (e ∷ es) =
    cond (not (eqb (node_of e) n) && not (is_visited n i (node_of e) visited)) (node_of e ∷ old_of n i visited es) (old_of n i visited es)

-- ---- an iteration: shuffles

unfoldable pub swap : ℕ → ℕ → List ℕ → List ℕ
swap p q xs = set (set xs p (get_or xs q 0)) q (get_or xs p 0)

-- "A shuffle runs p from length - 1 down to 1 and swaps p with the next draw modulo p + 1."
unfoldable pub shuffle_from : List ℕ → ℕ → ℕ → List ℕ → List ℕ
shuffle_from draws at zero xs = xs
shuffle_from draws at (suc p) xs = shuffle_from draws (suc at) p (swap (suc p) (drawn draws (suc (suc p)) at) xs)

unfoldable pub shuffle : List ℕ → ℕ → List ℕ → List ℕ
shuffle draws at xs = shuffle_from draws at (length xs - 1) xs

-- where the next draw is, after a list that is shuffled if longer than s
unfoldable pub drawn_after : ℕ → ℕ → List ℕ → ℕ
drawn_after s at xs = cond (ltb s (length xs)) (at + (length xs - 1)) at

-- "A new list longer than s is shuffled and keeps the places from s on"
unfoldable pub kept_new : List ℕ → ℕ → ℕ → List ℕ → List ℕ
kept_new draws s at xs = cond (ltb s (length xs)) (drop s (shuffle draws at xs)) xs

-- "If longer than s, the list is shuffled once and cut to s"
unfoldable pub kept_back : List ℕ → ℕ → ℕ → List ℕ → List ℕ
kept_back draws s at xs = cond (ltb s (length xs)) (take s (shuffle draws at xs)) xs

-- ---- an iteration: contexts

-- the new and the old list of each node so far, the total of new, and the draws used
pub record Renewed : Type 0 where
  pub news : List (List ℕ)
  pub olds : List (List ℕ)
  pub total : ℕ
  pub at : ℕ

unfoldable pub renew : List ℕ → ℕ → ℕ → List Bool → List (List Neighbor) → ℕ → Renewed → Renewed
renew draws n s visited lists i r =
    let found = new_of n i visited (list_at lists i) in
    record {
      news = r.news ++ (kept_new draws s r.at found ∷ []);
      olds = r.olds ++ (old_of n i visited (list_at lists i) ∷ []);
      total = r.total + length found;
      at = drawn_after s r.at found;
    }

unfoldable pub renew_all : List ℕ → ℕ → ℕ → List Bool → List (List Neighbor) → Renewed
renew_all draws n s visited lists = turns (renew draws n s visited lists) n (record { news = []; olds = []; total = 0; at = 0 })

-- "for node i, its kept pairs (i, member) become unvisited, that way round only"
unfoldable pub unvisit_all : ℕ → List (List ℕ) → List Bool → List Bool
unvisit_all n news visited = turns (λ (i : ℕ) (v : List Bool). through (unvisit n i) (get_or news i []) v) n visited

-- "all nodes share one reversed-old and one reversed-new list: each node's number, rising, once per old (or new) member it has"
unfoldable pub members_back : ℕ → List (List ℕ) → ℕ → List ℕ
members_back n members w = each (λ (i : ℕ). replicate (length (get_or members i [])) i) n

-- the reversed lists of node w: "old before new; every node's context gets a copy"
unfoldable pub reversed_old_of : List ℕ → ℕ → ℕ → Renewed → ℕ → List ℕ
reversed_old_of draws n s r w = kept_back draws s r.at (members_back n r.olds w)

unfoldable pub reversed_new_of : List ℕ → ℕ → ℕ → Renewed → ℕ → List ℕ
reversed_new_of draws n s r w = kept_back draws s (drawn_after s r.at (members_back n r.olds w)) (members_back n r.news w)

unfoldable pub context_of : List ℕ → ℕ → ℕ → Renewed → ℕ → Context
context_of draws n s r w =
    record {
      new = get_or r.news w [];
      old = get_or r.olds w [];
      reversed_new = reversed_new_of draws n s r w;
      reversed_old = reversed_old_of draws n s r w;
    }

-- ---- the whole iteration

pub record Iterated : Type 0 where
  pub descent : Descent
  pub cost : ℕ
  pub new : ℕ

unfoldable pub renewed : List ℕ → ℕ → ℕ → Met → Iterated
renewed draws n s m =
    let r = renew_all draws n s m.visited m.lists in
    record {
      descent = record {
        lists = m.lists;
        contexts = each (λ (w : ℕ). context_of draws n s r w ∷ []) n;
        visited = unvisit_all n r.news m.visited;
      };
      cost = m.cost;
      new = r.total;
    }

unfoldable pub iterated : Between → List ℕ → ℕ → ℕ → ℕ → Descent → Iterated
iterated d draws n k s x =
    renewed draws n s (meet_all d n k x.contexts (record { lists = x.lists; visited = x.visited; cost = 0 }))
