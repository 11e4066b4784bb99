-- What is a value of binary32 in lists made of such. Assumes nothing.
use mathlib.Core.List.{List, [], ◌∷◌}
use Prim.Native.Nat.{ℕ, zero, suc, ◌-◌}
use lib.Dec.{T}
use lib.ListN.{length, replicate}
use lib.Ieee.{Float, binary32, fits}
use lib.Ieee.Bits.{of_bits-fits}
use Rattle.rules.specs.declared.Neighbor.{Neighbor}
use Rattle.rules.specs.Distance.{zero32}
use Rattle.rules.specs.Lists.{entries, distances_of}
use Rattle.rules.specs.Relay.{Job}
use Rattle.rules.specs.Places.{padded}
use Rattle.rules.specs.RelayPlaces.{room_floats, jobs_floats}
use Rattle.lists.specs.All.{All}
use Rattle.lists.proofs.Plain.{all_append}
use Rattle.encoded.specs.Words.{Binary32}

pub binary-zero : T (fits binary32 zero32)
binary-zero = of_bits-fits binary32 0

binary-zeros : (m : ℕ) → Binary32 (replicate m zero32)
binary-zeros zero = tt
binary-zeros (suc m) = (binary-zero, binary-zeros m)

pub binary-padded : (m : ℕ) (xs : List Float) → Binary32 xs → Binary32 (padded m zero32 xs)
unfolding padded
binary-padded m xs X = all_append (λ (x : Float). T (fits binary32 x)) xs (replicate (m - length xs) zero32) X (binary-zeros (m - length xs))

pub binary-entries : (m : ℕ) (ns : List ℕ) (ds : List Float) → Binary32 ds → Binary32 (distances_of (entries m ns ds))
unfolding entries distances_of
binary-entries zero ns ds D = tt
binary-entries (suc m) [] ds D = tt
binary-entries (suc m) (n ∷ ns) [] D = tt
binary-entries (suc m) (n ∷ ns) (d ∷ ds) D = (D.0, binary-entries m ns ds D.1)

-- the floats of a state
pub binary_rooms : (m : ℕ) (ls : List (List Neighbor)) → All (λ (l : List Neighbor). Binary32 (distances_of l)) ls → Binary32 (room_floats m ls)
unfolding room_floats
binary_rooms m [] L = tt
binary_rooms m (l ∷ ls) L =
    all_append (λ (x : Float). T (fits binary32 x)) (padded m zero32 (distances_of l)) (room_floats m ls) (binary-padded m (distances_of l) L.0) (binary_rooms m ls L.1)

pub jobs-binary : (js : List Job) → All (λ (j : Job). T (fits binary32 j.distance)) js → Binary32 (jobs_floats js)
unfolding jobs_floats
jobs-binary [] J = tt
jobs-binary (j ∷ js) J = (J.0, jobs-binary js J.1)
