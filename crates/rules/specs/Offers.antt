-- Lists that hold k entries, and the four steps of an offer to one: look, push, measure, pop. Assumes nothing.
use Rattle.std.specs.Prelude.{Bool, true, cond, not, ◌&&◌, List, [], ◌∷◌, ℕ, ◌-◌, eqb, ltb, length, take, replicate}
use Rattle.std.specs.Float.Ieee.{lt, to_bits}
use Rattle.std.specs.Float.{binary32}
use Rattle.rules.specs.declared.Neighbor.{Neighbor}
use Rattle.rules.specs.Distance.{before, fit}
use Rattle.rules.specs.Lists.{node_of, insert}
use Rattle.rules.specs.Rows.{empty_slot}
use Rattle.rules.specs.Search.{farthest}

-- "A list has k entries, ascending; an unfilled one is (n, 0x7F7FFFFF)."
unfoldable pub unfilled : ℕ → ℕ → List Neighbor
unfilled n k = replicate k (empty_slot n)

abbrev pub empty_bits : ℕ
empty_bits = 0x7F7FFFFF

-- "no node above n, node n exactly with that distance, all other distances fit"
unfoldable pub entry_formed : ℕ → Neighbor → Bool
entry_formed n e = cond (eqb (node_of e) n) (eqb (to_bits binary32 e.distance) empty_bits) (ltb (node_of e) n && fit e.distance)

unfoldable pub entries_formed : ℕ → List Neighbor → Bool
entries_formed n [] = true
entries_formed n (e ∷ es) = entry_formed n e && entries_formed n es

-- "ascending": no entry precedes the one in front of it; equal entries may stand side by side
unfoldable pub in_order : Neighbor → List Neighbor → Bool
in_order x [] = true
in_order x (y ∷ ys) = not (before y x) && in_order y ys

unfoldable pub ascending : List Neighbor → Bool
ascending [] = true
ascending (x ∷ xs) = in_order x xs

unfoldable pub list_formed : ℕ → List Neighbor → Bool
list_formed n l = ascending l && entries_formed n l

unfoldable pub lists_formed : ℕ → List (List Neighbor) → Bool
lists_formed n [] = true
lists_formed n (l ∷ ls) = list_formed n l && lists_formed n ls

-- "look (taken up unless the distance is greater than the list's last)"
unfoldable pub look : Neighbor → List Neighbor → Bool
look e l = not (lt (farthest l) e.distance)

-- "push in order"
abbrev pub push : Neighbor → List Neighbor → List Neighbor
push e l = insert e l

-- "measure whether longer than k"
abbrev pub measure : ℕ → List Neighbor → Bool
measure k l = ltb k (length l)

-- "pop the last if so"
unfoldable pub pop : List Neighbor → List Neighbor
pop l = take (length l - 1) l

-- the four steps with none in between
unfoldable pub offer : ℕ → Neighbor → List Neighbor → List Neighbor
offer k e l = cond (look e l) (cond (measure k (push e l)) (pop (push e l)) (push e l)) l
