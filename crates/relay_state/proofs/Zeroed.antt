-- What is found zero is as many zeros, and the floats of jobs behind which are zeros are values of binary32. Assumes nothing.
use mathlib.Core.Path.{◌≡◌, refl}
use mathlib.Core.Bool.{true}
use mathlib.Core.List.{List, [], ◌∷◌, map}
use Prim.Native.Nat.{ℕ, zero, suc}
use borrow.Author.Tests.{eqb-true}
use lib.Dec.{T, eqb}
use lib.ListN.{length, replicate}
use lib.Ieee.{Float, binary32, to_bits, of_bits, fits}
use lib.Ieee.Bits.{of_bits-fits}
use Rattle.rules.specs.Distance.{zero32}
use Rattle.rules.specs.Relay.{Job}
use Rattle.rules.specs.Places.{padded}
use Rattle.rules.specs.RelayPlaces.{jobs_floats}
use Rattle.rules.proofs.Tests.{both}
use Rattle.lists.specs.All.{All}
use Rattle.encoded.specs.Words.{Binary32}
use Rattle.neighbor.proofs.Bits.{bits-same}
use Rattle.encoded.proofs.Binary.{binary-padded, jobs-binary}
use Rattle.zeros.specs.Zeros.{zeros}

-- ---- zeros

pub zeros_are : (xs : List ℕ) → zeros xs ≡ true → xs ≡ replicate (length xs) 0
unfolding zeros
zeros_are [] h = refl
zeros_are (x ∷ xs) h =
    let p = both (eqb x 0) (zeros xs) h in
    let e = eqb-true x 0 p.0 in
    let f = zeros_are xs p.1 in
    (cc)

pub are_zeros : (m : ℕ) → zeros (replicate m 0) ≡ true
unfolding zeros
are_zeros zero = refl
are_zeros (suc m) = are_zeros m

pub floats_are : (xs : List Float) → Binary32 xs → zeros (map (to_bits binary32) xs) ≡ true → xs ≡ replicate (length xs) zero32
unfolding zeros to_bits of_bits
floats_are [] B h = refl
floats_are (x ∷ xs) B h =
    let p = both (eqb (to_bits binary32 x) 0) (zeros (map (to_bits binary32) xs)) h in
    let e : x ≡ zero32 = bits-same x zero32 B.0 (of_bits-fits binary32 0) (eqb-true (to_bits binary32 x) 0 p.0) in
    let f = floats_are xs B.1 p.1 in
    (cc)

pub are_floats : (m : ℕ) → zeros (map (to_bits binary32) (replicate m zero32)) ≡ true
unfolding zeros to_bits of_bits
are_floats zero = refl
are_floats (suc m) = are_floats m

-- ---- values of binary32

pub binary-jobs : (m : ℕ) (js : List Job) → All (λ (j : Job). T (fits binary32 j.distance)) js → Binary32 (padded m zero32 (jobs_floats js))
binary-jobs m js J = binary-padded m (jobs_floats js) (jobs-binary js J)
