-- Rows: the live part of a row, in a graph and during a build. Assumes nothing.
use Rattle.std.specs.Prelude.{Bool, cond, List, [], ◌∷◌, ◌++◌, ℕ, ◌-◌, ltb, length, replicate, Float}
use Rattle.std.specs.Float.{binary32}
use Rattle.std.specs.Float.Ieee.{of_bits, eq}
use Rattle.rules.specs.declared.Neighbor.{Neighbor}
use Rattle.rules.specs.Loops.{part}
use Rattle.rules.specs.Lists.{neighbor, nodes_of}

-- "A row is read up to its first value of n or more, so any graph contents are legal."
unfoldable pub live_nodes : ℕ → List ℕ → List ℕ
live_nodes n [] = []
live_nodes n (v ∷ vs) = cond (ltb v n) (v ∷ live_nodes n vs) []

-- the live part of row q of a graph
unfoldable pub graph_row : ℕ → ℕ → List ℕ → ℕ → List ℕ
graph_row n index_size graph q = live_nodes n (part index_size q graph)

-- "distance 0x7F7FFFFF ("empty")"
abbrev pub empty_distance : Float
empty_distance = of_bits binary32 0x7F7FFFFF

unfoldable pub is_empty : Neighbor → Bool
is_empty e = eq e.distance empty_distance

-- "Empty slots hold node n and distance 0x7F7FFFFF"
abbrev pub empty_slot : ℕ → Neighbor
empty_slot n = neighbor n empty_distance

-- "A row's live part ends at its first empty distance."
unfoldable pub live : List Neighbor → List Neighbor
live [] = []
live (e ∷ es) = cond (is_empty e) [] (e ∷ live es)

-- "Each graph row is the live nodes, then n in every slot left."
unfoldable pub finished : ℕ → ℕ → List Neighbor → List ℕ
finished n index_size row = nodes_of (live row) ++ replicate (index_size - length (live row)) n
