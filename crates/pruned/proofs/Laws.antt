-- The row of one node, from its candidates on. Assumes nothing.
use mathlib.Core.Path.{◌≡◌, sym, ap, ◌∙◌, subst}
use mathlib.Core.Bool.{false}
use mathlib.Core.List.{List, map}
use Prim.Native.Nat.{ℕ, ◌≤◌, ◌<◌}
use native.Mathlib.Omega.{arith}
use lib.ListN.{length, take}
use lib.Ieee.{Float}
use Rattle.rules.specs.declared.Neighbor.{Neighbor}
use Rattle.rules.specs.Loops.{over}
use Rattle.rules.specs.Lists.{node_of, entries, sort}
use Rattle.rules.specs.Build.{Between, entry, exact_list, candidates, occludes, choose, row_of, pruned}
use Rattle.lists.specs.All.{All}
use Rattle.lists.specs.Lists.{SortedIn}
use Rattle.lists.proofs.Plain.{all_map, all_weaker}
use Rattle.exact.specs.Exact.{Other}
use Rattle.exact.proofs.Laws.{entries-some, exact_each}
use Rattle.hops.specs.Hops.{list_of, Linked, Candidates}
use Rattle.hops.proofs.Laws.{candidates-same, all-candidates}
use Rattle.prune.specs.Chosen.{AllBelow, Chosen}
use Rattle.prune.proofs.Laws.{below-sort}
use Rattle.pruned.specs.Pruned.{sizes, Given, Room, PrunedRow}

-- there is room for the candidates
pub room_for : {d : Between} {n k count limit q len : ℕ} {lists flags flags' nodes nodes₁ : List ℕ} {dists : List Float} → Given d n k count limit lists → Room n flags nodes dists
    → Candidates (list_of lists k count) count limit q flags nodes flags' nodes₁ len → (len ≤ length nodes₁) × (len ≤ length dists)
room_for given room c =
    let within = c.within in
    let hops = given.hops in
    let most = given.most in
    let fewest = given.fewest in
    let long = c.long in
    let nodes = room.nodes_long in
    let dists = room.dists_long in
    (omega arith, omega arith)

module _ (d : Between) (n k count limit : ℕ) (lists : List ℕ) (given : Given d n k count limit lists) where
  -- the members of each list are below n
  members-below : (v : ℕ) → v < n → All (λ (i : ℕ). i < n) (list_of lists k count v)
  members-below v h = subst (All (λ (i : ℕ). i < n)) (sym (given.each v h)) (all_weaker (Other n v) (λ (i : ℕ). i < n) (λ (i : ℕ) o. o.0) (exact_list d n k v) (exact_each d n k v))

  pub linked : Linked lists k count n
  linked = let fewest = given.fewest in record { room = given.room; fewer = omega arith; below = members-below }

  module _ (q : ℕ) (h : q < n) where
    -- the candidates by the lists that lie in the slice are those by the exact lists
    pub same-candidates : candidates (list_of lists k count) limit q ≡ candidates (exact_list d n k) limit q
    same-candidates = candidates-same (list_of lists k count) (exact_list d n k) n limit q given.each (members-below q h) h

    pub candidates-below : All (λ (v : ℕ). v < n) (candidates (list_of lists k count) limit q)
    candidates-below = all-candidates (λ (v : ℕ). v < n) (list_of lists k count) limit q members-below h

    -- the candidates as entries, sorted, are below n
    pub sorted_below : (es : List Neighbor) (cs : List ℕ) → es ≡ map (entry d q) cs → All (λ (v : ℕ). v < n) cs → AllBelow n (sort es)
    sorted_below es cs e b = below-sort n es (subst (AllBelow n) (sym e) (all_map (λ (x : Neighbor). node_of x < n) (entry d q) cs b))

    -- the whole row, step by step
    pub row_is : (w : ℕ) (t : Float) {len r : ℕ} {flags flags' nodes nodes₁ nodes₂ : List ℕ} {dists dists₁ dists₂ : List Float} {ns ns₁ ns₂ : List ℕ} {ds ds₁ ds₂ : List Float}
        → Room n flags nodes dists
        → Candidates (list_of lists k count) count limit q flags nodes flags' nodes₁ len
        → dists₁ ≡ over len (map (d q) (take len nodes₁)) dists → length dists₁ ≡ length dists
        → SortedIn nodes₁ dists₁ len nodes₂ dists₂
        → Chosen (occludes d t false) w (entries len nodes₂ dists₂) ns ds ns₁ ds₁ r
        → entries w ns₂ ds₂ ≡ row_of n w (entries r ns₁ ds₁)
        → PrunedRow d n (sizes k w limit t) q flags flags' nodes₂ dists₂ ns₂ ds₂
    unfolding pruned
    row_is w t {len} {r} {flags} {flags'} {nodes} {nodes₁} {nodes₂} {dists} {dists₁} {dists₂} room c e dl s x f =
        let raw : entries len nodes₁ dists₁ ≡ map (entry d q) (candidates (exact_list d n k) limit q) =
        ap (entries len nodes₁) e ∙ entries-some d q len nodes₁ dists (room_for given room c).0 ∙ ap (map (entry d q)) (c.list ∙ same-candidates) in
        record {
          row = f ∙ ap (row_of n w) (x.list ∙ ap (choose (occludes d t false) w) (s.list ∙ ap sort raw));
          flags = c.same;
          nodes_long = s.nodes_long ∙ c.long ∙ room.nodes_long;
          dists_long = s.dists_long ∙ dl ∙ room.dists_long;
        }

-- the sorted candidates are below n
pub ready : {d : Between} {n k count limit q len : ℕ} {lists flags flags' nodes nodes₁ nodes₂ : List ℕ} {dists dists₁ dists₂ : List Float} → Given d n k count limit lists → q < n → Room n flags nodes dists
    → Candidates (list_of lists k count) count limit q flags nodes flags' nodes₁ len → dists₁ ≡ over len (map (d q) (take len nodes₁)) dists → SortedIn nodes₁ dists₁ len nodes₂ dists₂
    → AllBelow n (entries len nodes₂ dists₂)
ready {d} {n} {k} {count} {limit} {q} {len} {lists} {flags} {flags'} {nodes} {nodes₁} {nodes₂} {dists} {dists₁} {dists₂} given h room c e s =
    subst (AllBelow n) (sym s.list)
    (sorted_below d n k count limit lists given q h (entries len nodes₁ dists₁) (take len nodes₁) (ap (entries len nodes₁) e ∙ entries-some d q len nodes₁ dists (room_for given room c).0)
    (subst (All (λ (v : ℕ). v < n)) (sym c.list) (candidates-below d n k count limit lists given q h)))
