-- A look and a pop as the law of one list needs them, and the offers that a list still waits for. Assumes nothing.
use Rattle.std.specs.Prelude.{Bool, true, false, not, cond, List, [], ◌∷◌, ◌++◌, ℕ, ◌-◌, eqb, length}
use Rattle.std.specs.Float.Ieee.{lt}
use Rattle.rules.specs.declared.Neighbor.{Neighbor}
use Rattle.rules.specs.Search.{farthest}
use Rattle.rules.specs.Relay.{Stage, fresh, looked, pushed, measured, popped, Job, equal_nodes, for_u, for_v}
use Rattle.relay_kept.specs.Halves.{others}

-- "taken up unless the distance is greater than the list's last"
unfoldable pub look_takes : Neighbor → List Neighbor → Bool
look_takes e l = not (lt (farthest l) e.distance)

-- "pop the last": all but the one at the last place
unfoldable pub pop_last : List Neighbor → List Neighbor
pop_last l = others (length l - 1) l

-- the offer is still to be pushed
unfoldable pub waits : Bool → Stage → Bool
waits equal fresh = not equal
waits equal (looked taken) = taken
waits equal (pushed taken) = false
waits equal (measured taken longer) = false
waits equal (popped taken longer) = false

-- an offer that is still to be pushed
abbrev pub waiting : Bool → Neighbor → Stage → List Neighbor
waiting equal e s = cond (waits equal s) (e ∷ []) []

-- what the first half of a job, and the second, has still to push to w's list
abbrev pub left_first : ℕ → Job → List Neighbor
left_first w j = cond (eqb j.u w) (waiting (equal_nodes j) (for_u j) j.first) []

abbrev pub left_second : ℕ → Job → List Neighbor
left_second w j = cond (eqb j.v w) (waiting (equal_nodes j) (for_v j) j.second) []

-- the half beside the one that moves
abbrev pub left_beside : ℕ → Bool → Job → List Neighbor
left_beside w false j = left_second w j
left_beside w true j = left_first w j

-- all that jobs have still to push to w's list
unfoldable pub left : ℕ → List Job → List Neighbor
left w [] = []
left w (j ∷ js) = (left_first w j ++ left_second w j) ++ left w js
