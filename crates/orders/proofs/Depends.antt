-- "Which offers were taken up may depend on the order": two orders of the relay of square I. Assumes nothing.
use mathlib.Core.Path.{◌≡◌, refl}
use mathlib.Core.List.{List, [], ◌∷◌, ◌++◌}
use Prim.Native.Nat.{ℕ}
use lib.ListN.{replicate}
use lib.Ieee.{of_bits, to_bits, add, sub, mul, lt, eq}
use Rattle.rules.specs.Loops.{each, through, part}
use Rattle.rules.specs.Distance.{lane, total_of, fit, answer, distance_of, carried, lanes_of, nodes_apart, between, before}
use Rattle.rules.specs.Lists.{insert}
use Rattle.rules.specs.Search.{farthest}
use Rattle.rules.specs.Offers.{unfilled, look, pop}
use Rattle.rules.specs.Relay.{is_popped, taken_of, next_stage, next_list, move_first, move_second, moved, job_of, opened, reports_of}
use Rattle.rules.proofs.SquareI.{at_opening}
use Rattle.orders.specs.Runs.{moved_if, ran}

-- pair after pair: node 3 is offered to list 0 before a nearer one, and after it
abbrev pub early : List ℕ
early = replicate 8 0 ++ (replicate 8 1 ++ replicate 8 2)

abbrev pub late : List ℕ
late = replicate 8 0 ++ (replicate 8 2 ++ replicate 8 1)

pub record Depends : Type 0 where
  pub taken : reports_of (ran 2 early at_opening).jobs ≡ 1 ∷ 1 ∷ 1 ∷ 1 ∷ 1 ∷ 1 ∷ []
  pub refused : reports_of (ran 2 late at_opening).jobs ≡ 1 ∷ 1 ∷ 0 ∷ 1 ∷ 1 ∷ 1 ∷ []

pub depends : Depends
unfolding ran through moved_if each part lane total_of fit answer distance_of carried lanes_of nodes_apart between before insert farthest unfilled look pop is_popped taken_of next_stage next_list move_first move_second moved job_of opened reports_of of_bits to_bits add sub mul lt eq
depends = record { taken = refl; refused = refl }
