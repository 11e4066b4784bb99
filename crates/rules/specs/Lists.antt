-- Ascending lists of entries: insertion, sorting, the least k. Assumes nothing.
use Rattle.std.specs.Prelude.{cond, List, [], ◌∷◌, map, ℕ, zero, suc, take, Float}
use Rattle.std.specs.Float.{binary32}
use Rattle.std.specs.Float.Ieee.{to_bits}
use Rattle.rules.specs.declared.Neighbor.{Neighbor}
use Rattle.rules.specs.Loops.{through}
use Rattle.rules.specs.Distance.{before}

abbrev pub neighbor : ℕ → Float → Neighbor
neighbor n d = record { node = record { 0 = n }; distance = d }

-- "`BinaryHeap` becomes an ascending part of a lent buffer": the first len places of a u32 and an f32 slice, as entries
unfoldable pub entries : ℕ → List ℕ → List Float → List Neighbor
entries zero ns ds = []
entries (suc len) [] ds = []
entries (suc len) (n ∷ ns) [] = []
entries (suc len) (n ∷ ns) (d ∷ ds) = neighbor n d ∷ entries len ns ds

-- the entry, before the first that it precedes
unfoldable pub insert : Neighbor → List Neighbor → List Neighbor
insert e [] = e ∷ []
insert e (x ∷ xs) = cond (before e x) (e ∷ x ∷ xs) (x ∷ insert e xs)

-- how many stand in front of that one
unfoldable pub place : Neighbor → List Neighbor → ℕ
place e [] = zero
place e (x ∷ xs) = cond (before e x) zero (suc (place e xs))

-- each of es inserted
unfoldable pub insert_all : List Neighbor → List Neighbor → List Neighbor
insert_all es xs = through insert es xs

unfoldable pub sort : List Neighbor → List Neighbor
sort es = insert_all es []

-- "the least k .. (all, if fewer)"
unfoldable pub least : ℕ → List Neighbor → List Neighbor
least k es = take k (sort es)

abbrev pub node_of : Neighbor → ℕ
node_of e = e.node.0

-- the node numbers of entries, their distances, and these by their bits
unfoldable pub nodes_of : List Neighbor → List ℕ
nodes_of es = map node_of es

unfoldable pub distances_of : List Neighbor → List Float
distances_of es = map (λ (e : Neighbor). e.distance) es

unfoldable pub bits_of : List Neighbor → List ℕ
bits_of es = map (λ (e : Neighbor). to_bits binary32 e.distance) es
