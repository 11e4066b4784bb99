-- The relay of square I is asked as the demand says, so under every order that finishes it its lists are the settled ones. Assumes nothing.
use mathlib.Core.Path.{◌≡◌, refl, ◌∙◌}
use mathlib.Core.Bool.{true, false}
use mathlib.Core.List.{List, [], ◌∷◌, ◌++◌}
use Prim.Native.Nat.{ℕ, zero, suc, ◌<◌}
use native.Mathlib.Omega.{arith}
use lib.Dec.{eqb}
use lib.ListN.{replicate, length-replicate}
use lib.Ieee.{binary32, of_bits, to_bits, add, sub, mul, lt, eq}
use lib.Ieee.Bits.{of_bits-fits}
use Rattle.std.specs.Prelude.{Some, None}
use Rattle.rules.specs.Loops.{each, through, part}
use Rattle.rules.specs.Numbers.{outside}
use Rattle.rules.specs.Distance.{zero32, lane, total_of, fit, answer, distance_of, carried, lanes_of, nodes_apart, between, before}
use Rattle.rules.specs.Lists.{neighbor, entries, insert, insert_all, sort, least}
use Rattle.rules.specs.Rows.{empty_distance}
use Rattle.rules.specs.Offers.{entry_formed, entries_formed, in_order, ascending, list_formed, lists_formed}
use Rattle.rules.specs.Places.{lists_in}
use Rattle.rules.specs.RelayCall.{OpenLent}
use Rattle.rules.proofs.SquareI.{lanes, f1, f9}
use Rattle.encoded.specs.Words.{Binary32}
use Rattle.orders.specs.Demand3.{Asked, u, v, apart, held, offers_of, offered, Finishes, Room, listed}
use Rattle.orders.proofs.Demand3.{demand3}

-- "relay, k 2, unfilled lists, jobs (0,1), (0,3), (0,2)"
abbrev pub lent : OpenLent
lent =
    record {
      dimension = 1;
      n = 4;
      lanes = lanes;
      k = 2;
      nodes = replicate 8 4;
      distances = replicate 8 empty_distance;
      jobs = 0 ∷ 1 ∷ 0 ∷ 3 ∷ 0 ∷ 2 ∷ [];
      state_u = replicate 1292 0;
      state_f = replicate 328 zero32;
      scratch_u = replicate 6144 0;
      scratch_f = replicate 6144 zero32;
    }

below : (i : ℕ) → i < 3 → (u lent i < 4) × (v lent i < 4)
below zero h = (omega arith, omega arith)
below (suc zero) h = (omega arith, omega arith)
below (suc (suc zero)) h = (omega arith, omega arith)
below (suc (suc (suc i))) h = absurd (omega arith)

fits : (i : ℕ) → i < 3 → nodes_apart lanes 1 (u lent i) (v lent i) ≡ Some (apart lent i)
unfolding lane total_of fit answer distance_of carried lanes_of part nodes_apart between of_bits to_bits add sub mul
fits zero h = refl
fits (suc zero) h = refl
fits (suc (suc zero)) h = refl
fits (suc (suc (suc i))) h = absurd (omega arith)

binary : (m : ℕ) → Binary32 (replicate m empty_distance)
binary zero = tt
binary (suc m) = (of_bits-fits binary32 0x7F7FFFFF, binary m)

formed : lists_formed 4 (lists_in 4 2 (replicate 8 4) (replicate 8 empty_distance)) ≡ true
unfolding lists_formed list_formed ascending in_order entries_formed entry_formed lists_in each part entries before of_bits to_bits lt eq
formed = refl

pub asked : Asked lent
unfolding outside
asked =
    record {
      lent =
          record {
            dimension = refl;
            n = refl;
            k = refl;
            lanes = refl;
            nodes = refl;
            distances = refl;
            jobs = refl;
            words = length-replicate {A = ℕ} 1292 0;
            floats = length-replicate 328 zero32;
            scratch_words = (let e = length-replicate {A = ℕ} 6144 0 in omega arith);
            scratch_floats = (let e = length-replicate 6144 zero32 in omega arith);
          };
      some = omega arith;
      few = omega arith;
      us = λ (i : ℕ) (h : i < 3). (below i h).0;
      vs = λ (i : ℕ) (h : i < 3). (below i h).1;
      lists = formed;
      binary = binary 8;
      fit = λ (i : ℕ) (h : i < 3) (q : eqb (u lent i) (v lent i) ≡ false). fits i h;
    }

settled : least 2 (held lent 0 ++ offered lent 0) ≡ neighbor 1 f1 ∷ neighbor 2 f9 ∷ []
unfolding least sort insert_all through insert before offered offers_of each lists_in part entries lane total_of fit answer distance_of carried lanes_of nodes_apart between of_bits to_bits add sub mul lt eq
settled = refl

-- "list 0 is 1 at 1, 2 at 9"
pub any_order_of_I : (order : List ℕ) → Finishes lent order → (c : Room lent) → listed lent order c 0 ≡ neighbor 1 f1 ∷ neighbor 2 f9 ∷ []
any_order_of_I order F c = ((demand3 lent asked).finished order F c).lists 0 (omega arith) ∙ settled
