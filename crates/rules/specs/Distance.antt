-- "Distance", and the order of entries. Assumes nothing.
use Rattle.std.specs.Prelude.{Some, None, Bool, true, false, cond, ◌&&◌, ◌||◌, List, [], ◌∷◌, ℕ, leb, ltb, Float}
use Rattle.std.specs.Float.{binary32}
use Rattle.std.specs.Float.Ieee.{add, sub, mul, lt, eq, to_bits, of_bits}
use Rattle.rules.specs.Answers.{Distance}
use Rattle.rules.specs.declared.Neighbor.{Neighbor}
use Rattle.rules.specs.Loops.{part}

-- "t = a - b and the total becomes total + t*t, each operation rounded once in binary32."
unfoldable pub lane : Float → Float → Float → Float
lane total a b = add binary32 total (mul binary32 (sub binary32 a b) (sub binary32 a b))

-- "For lanes in rising order"
unfoldable pub total_of : Float → List Float → List Float → Float
total_of total [] y = total
total_of total (a ∷ x) [] = total
total_of total (a ∷ x) (b ∷ y) = total_of (lane total a b) x y

abbrev pub zero32 : Float
zero32 = of_bits binary32 0

abbrev pub largest : ℕ
largest = 0x7F7FFFFE

-- "when its bits, as a whole number, are at most 0x7F7FFFFE": the bits of a NaN, an infinity or a negative number are more
unfoldable pub fit : Float → Bool
fit x = leb (to_bits binary32 x) largest

-- "The distance answer carries the f32 when .., and says unfit otherwise."
unfoldable pub answer : Float → Distance
answer x = cond (fit x) (Some x) None

-- "The total starts at 0.0."
unfoldable pub distance_of : List Float → List Float → Distance
distance_of a b = answer (total_of zero32 a b)

-- what a distance answer says: 0 and the distance, or refusal 10 (proofs/Distances.antt ties it to row 10)
pub record Measure : Type 0 where
  pub number : ℕ
  pub value : Float

unfoldable pub measure_of : Distance → Measure
measure_of (Some x) = record { number = 0; value = x }
measure_of None = record { number = 10; value = zero32 }

unfoldable pub unfit : Distance → Bool
unfit (Some x) = false
unfit None = true

-- the distance that an answer carries
unfoldable pub carried : Distance → Float
carried (Some x) = x
carried None = zero32

-- "lanes in one f32 slice": the lanes of a node
unfoldable pub lanes_of : List Float → ℕ → ℕ → List Float
lanes_of lanes dimension node = part dimension node lanes

-- the distance of two nodes, and of a node and a query
unfoldable pub nodes_apart : List Float → ℕ → ℕ → ℕ → Distance
nodes_apart lanes dimension i j = distance_of (lanes_of lanes dimension i) (lanes_of lanes dimension j)

unfoldable pub query_apart : List Float → ℕ → List Float → ℕ → Distance
query_apart lanes dimension query i = distance_of (lanes_of lanes dimension i) query

-- what build, descent and relay are told of distances, once row 10 has passed
unfoldable pub between : List Float → ℕ → ℕ → ℕ → Float
between lanes dimension i j = carried (nodes_apart lanes dimension i j)

-- "Order: by distance, then node number."
unfoldable pub before : Neighbor → Neighbor → Bool
before a b = lt a.distance b.distance || (eq a.distance b.distance && ltb a.node.0 b.node.0)
