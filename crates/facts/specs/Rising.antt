-- Entries each of which precedes the next. Assumes nothing.
use Rattle.std.specs.Prelude.{Bool, true, ◌&&◌, List, [], ◌∷◌}
use Rattle.rules.specs.declared.Neighbor.{Neighbor}
use Rattle.rules.specs.Distance.{before}

-- "Order: by distance, then node number": each entry precedes the next
unfoldable pub leads : Neighbor → List Neighbor → Bool
leads x [] = true
leads x (y ∷ ys) = before x y && leads y ys

unfoldable pub rising : List Neighbor → Bool
rising [] = true
rising (x ∷ xs) = leads x xs
