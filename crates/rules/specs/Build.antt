-- "Build": steps 1 to 6, over a distance of two nodes. Assumes nothing.
use Rattle.std.specs.Prelude.{Bool, true, false, cond, not, ◌&&◌, ◌||◌, List, [], ◌∷◌, ◌++◌, map, reverse, ℕ, zero, suc, ◌+◌, ◌-◌, leb, ltb, eqb, length, get_or, drop, replicate, Float}
use Rattle.std.specs.Float.{binary32}
use Rattle.std.specs.Float.Ieee.{add, sub, mul, div, of_bits, lt}
use Rattle.rules.specs.declared.Neighbor.{Neighbor}
use Rattle.rules.specs.Loops.{turns, through, each, any_of, has, part, put_part}
use Rattle.rules.specs.Lists.{neighbor, node_of, nodes_of, sort, least}
use Rattle.rules.specs.Rows.{empty_distance, is_empty, empty_slot, live, finished}
use Rattle.rules.specs.Calls.{BuildSizes}

-- the distance of two nodes, once row 10 has passed
abbrev pub Between : Type 0
Between = ℕ → ℕ → Float

-- node i as an entry of a list of q's
abbrev pub entry : Between → ℕ → ℕ → Neighbor
entry d q i = neighbor i (d q i)

-- ---- 1. "Exact list of each node: the least `init_k` of the others (all, if fewer), written farthest first."

unfoldable pub others : ℕ → ℕ → List ℕ
others q zero = []
others q (suc i) = others q i ++ cond (eqb i q) [] (i ∷ [])

unfoldable pub exact_list : Between → ℕ → ℕ → ℕ → List ℕ
exact_list d n init_k q = reverse (nodes_of (least init_k (map (entry d q) (others q n))))

-- ---- 2. "Two-hop candidates of q"

-- "any node taken before" is skipped
unfoldable pub taking : ℕ → List ℕ → List ℕ
taking m taken = cond (has m taken) taken (taken ++ (m ∷ []))

-- "Skip q .. Stop as soon as `neighbor_neighbor_size` are taken."
unfoldable pub hop : ℕ → ℕ → ℕ → List ℕ → List ℕ
hop limit q m taken = cond (leb limit (length taken) || eqb m q) taken (taking m taken)

-- "walk q's list in order, and each member's list in order."
unfoldable pub two_hops : (ℕ → List ℕ) → ℕ → ℕ → List ℕ
two_hops lists limit q = through (λ (member : ℕ) (taken : List ℕ). through (hop limit q) (lists member) taken) (lists q) []

-- "Then add the members of q's list not yet taken."
unfoldable pub candidates : (ℕ → List ℕ) → ℕ → ℕ → List ℕ
candidates lists limit q = through taking (lists q) (two_hops lists limit q)

-- ---- 3. "Sort. Keep the first. Until `index_size` are kept, take the next p unless, against some kept r, c > threshold"

abbrev pub two : Float
two = of_bits binary32 0x40000000

abbrev pub square : Float → Float
square x = mul binary32 x x

-- "c = ((dp*dp + dr*dr) - djk*djk) / (2*(dp*dr)) in binary32"; 0 over 0 is a NaN
unfoldable pub cosine : Float → Float → Float → Float
cosine dp dr djk =
    div binary32 (sub binary32 (add binary32 (square dp) (square dr)) (square djk)) (mul binary32 two (mul binary32 dp dr))

-- "dp and dr are the stored distances, and djk is the distance of p and r. NaN does not occlude": no comparison holds of it.
-- In step 5 "an equal node also occludes".
unfoldable pub occludes : Between → Float → Bool → Neighbor → Neighbor → Bool
occludes d threshold equal_too p r =
    (equal_too && eqb (node_of p) (node_of r)) || lt threshold (cosine p.distance r.distance (d (node_of p) (node_of r)))

-- what is kept, and the next p: the first meets no kept entry, so it is kept
unfoldable pub keep : (Neighbor → Neighbor → Bool) → ℕ → Neighbor → List Neighbor → List Neighbor
keep occluded index_size p kept = cond (ltb (length kept) index_size && not (any_of (occluded p) kept)) (kept ++ (p ∷ [])) kept

unfoldable pub choose : (Neighbor → Neighbor → Bool) → ℕ → List Neighbor → List Neighbor
choose occluded index_size sorted = through (keep occluded index_size) sorted []

-- ---- 4. "Write kept entries to q's row. Empty slots hold node n and distance 0x7F7FFFFF"

unfoldable pub row_of : ℕ → ℕ → List Neighbor → List Neighbor
row_of n index_size kept = kept ++ replicate (index_size - length kept) (empty_slot n)

-- steps 2 to 4 of q
unfoldable pub pruned : Between → ℕ → BuildSizes → ℕ → List Neighbor
pruned d n p q =
    row_of n p.index_size
    (choose (occludes d p.threshold false) p.index_size
    (sort (map (entry d q) (candidates (exact_list d n p.init_k) p.neighbor_neighbor_size q))))

unfoldable pub pruned_slots : Between → ℕ → BuildSizes → List Neighbor
pruned_slots d n p = each (pruned d n p) n

-- ---- 5. "Reverse links, for each node v rising, for i from 0 to `index_size` - 1"

-- "read slot i + v."
abbrev pub slot_read : ℕ → ℕ → ℕ → ℕ
slot_read index_size v i = i + v

-- "mark the next slot, if any, empty in distance only"
unfoldable pub mark_next : List Neighbor → List Neighbor
mark_next [] = []
mark_next (e ∷ es) = neighbor (node_of e) empty_distance ∷ es

-- "write the chosen from the row's start, and mark the next slot"
unfoldable pub rewritten : List Neighbor → List Neighbor → List Neighbor
rewritten chosen row = chosen ++ mark_next (drop (length chosen) row)

-- "If row w's first empty slot is its last slot, the offer goes there; if an earlier one, it is lost."
abbrev pub at_empty : ℕ → Neighbor → List Neighbor → List Neighbor
at_empty index_size offer row = cond (eqb (suc (length (live row))) index_size) (rewritten (live row ++ (offer ∷ [])) row) row

-- "If full, sort its entries with the offer, choose as in step 3 (an equal node also occludes)"
unfoldable pub at_full : Between → Float → ℕ → Neighbor → List Neighbor → List Neighbor
at_full d threshold index_size offer row =
    rewritten (choose (occludes d threshold true) index_size (sort (row ++ (offer ∷ [])))) row

unfoldable pub offered : Between → Float → ℕ → Neighbor → List Neighbor → List Neighbor
offered d threshold index_size offer row =
    cond (ltb (length (live row)) index_size) (at_empty index_size offer row) (at_full d threshold index_size offer row)

-- "If v is in w's live part, go on. Otherwise offer (v, that slot's distance) to row w."
unfoldable pub link_back : Between → Float → ℕ → ℕ → Neighbor → List Neighbor → List Neighbor
link_back d threshold index_size v e slots =
    let w = node_of e in
    let row = part index_size w slots in
    cond (has v (nodes_of (live row))) slots (put_part index_size w (offered d threshold index_size (neighbor v e.distance) row) slots)

-- "read slot i + v. If empty, go on."
unfoldable pub link : Between → Float → ℕ → ℕ → ℕ → List Neighbor → List Neighbor
link d threshold index_size v i slots =
    let e = get_or slots (slot_read index_size v i) (empty_slot 0) in
    cond (is_empty e) slots (link_back d threshold index_size v e slots)

unfoldable pub linked_slots : Between → ℕ → BuildSizes → List Neighbor → List Neighbor
linked_slots d n p slots =
    turns (λ (v : ℕ) (s : List Neighbor). turns (link d p.threshold p.index_size v) p.index_size s) n slots

-- ---- 6. "Each graph row is the live nodes, then n in every slot left."

unfoldable pub graph_from : ℕ → ℕ → List Neighbor → List ℕ
graph_from n index_size slots = each (λ (q : ℕ). finished n index_size (part index_size q slots)) n

unfoldable pub graph_of : Between → ℕ → BuildSizes → List ℕ
graph_of d n p = graph_from n p.index_size (linked_slots d n p (pruned_slots d n p))
