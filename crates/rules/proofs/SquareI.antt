-- The lanes of the settled squares, and the relay of I computed job by job. Assumes nothing.
use mathlib.Core.Path.{◌≡◌, refl, ap, ◌∙◌}
use mathlib.Core.Bool.{true}
use mathlib.Core.List.{List, [], ◌∷◌, ◌++◌}
use Prim.Native.Nat.{ℕ}
use lib.ListN.{replicate}
use lib.Ieee.{Float, binary32, of_bits, to_bits, add, sub, mul, lt, eq}
use Rattle.rules.specs.declared.Neighbor.{Neighbor}
use Rattle.rules.specs.Loops.{each, part}
use Rattle.rules.specs.Distance.{lane, total_of, fit, answer, distance_of, carried, lanes_of, nodes_apart, between, before}
use Rattle.rules.specs.Lists.{neighbor, insert}
use Rattle.rules.specs.Rows.{empty_slot}
use Rattle.rules.specs.Build.{Between}
use Rattle.rules.specs.Search.{farthest}
use Rattle.rules.specs.Offers.{unfilled, look, pop}
use Rattle.rules.specs.Relay.{fresh, popped, Job, Relay, is_popped, next_stage, next_list, move_first, move_second, moved, job_of, opened}

-- 0.0, 1.0, 2.0, 3.0, 7.0, 9.0, 49.0 and 0.5
abbrev pub f0 : Float
f0 = of_bits binary32 0

abbrev pub f1 : Float
f1 = of_bits binary32 0x3F800000

abbrev pub f2 : Float
f2 = of_bits binary32 0x40000000

abbrev pub f3 : Float
f3 = of_bits binary32 0x40400000

abbrev pub f7 : Float
f7 = of_bits binary32 0x40E00000

abbrev pub f9 : Float
f9 = of_bits binary32 0x41100000

abbrev pub f49 : Float
f49 = of_bits binary32 0x42440000

abbrev pub half : Float
half = of_bits binary32 0x3F000000

-- "Lanes 0, 1, 3, 7; dimension 1"
abbrev pub lanes : List Float
lanes = f0 ∷ f1 ∷ f3 ∷ f7 ∷ []

abbrev pub d : Between
d = between lanes 1

-- the moves of a schedule, one after the other
abbrev pub moved_all : ℕ → Relay → List ℕ → Relay
moved_all k r [] = r
moved_all k r (i ∷ is) = moved_all k (moved k r i) is

abbrev eight_of : ℕ → List ℕ
eight_of i = replicate 8 i

-- "relay, k 2, unfilled lists, jobs (0,1), (0,3), (0,2)"
abbrev pub at_opening : Relay
at_opening = opened d (replicate 4 (unfilled 4 2)) (0 ∷ 1 ∷ 0 ∷ 3 ∷ 0 ∷ 2 ∷ [])

abbrev pub lists_i : List (List Neighbor)
lists_i = (moved_all 2 at_opening (eight_of 0 ++ (eight_of 1 ++ eight_of 2))).lists

then_more : (k : ℕ) (r : Relay) (xs ys : List ℕ) → moved_all k r (xs ++ ys) ≡ moved_all k (moved_all k r xs) ys
then_more k r [] ys = refl
then_more k r (x ∷ xs) ys = then_more k (moved k r x) xs ys

abbrev waiting : ℕ → Float → Job
waiting v x = record { u = 0; v = v; distance = x; first = fresh; second = fresh }

abbrev over : ℕ → Float → Job
over v x = record { u = 0; v = v; distance = x; first = popped true true; second = popped true true }

abbrev open4 : List Neighbor
open4 = empty_slot 4 ∷ empty_slot 4 ∷ []

abbrev with0 : Float → List Neighbor
with0 x = neighbor 0 x ∷ empty_slot 4 ∷ []

-- as opened, and after each job
abbrev at0 : Relay
at0 = record { lists = open4 ∷ open4 ∷ open4 ∷ open4 ∷ []; jobs = waiting 1 f1 ∷ waiting 3 f49 ∷ waiting 2 f9 ∷ [] }

abbrev at1 : Relay
at1 =
    record {
      lists = (neighbor 1 f1 ∷ empty_slot 4 ∷ []) ∷ with0 f1 ∷ open4 ∷ open4 ∷ [];
      jobs = over 1 f1 ∷ waiting 3 f49 ∷ waiting 2 f9 ∷ [];
    }

abbrev at2 : Relay
at2 =
    record {
      lists = (neighbor 1 f1 ∷ neighbor 3 f49 ∷ []) ∷ with0 f1 ∷ open4 ∷ with0 f49 ∷ [];
      jobs = over 1 f1 ∷ over 3 f49 ∷ waiting 2 f9 ∷ [];
    }

abbrev pub at_end : Relay
at_end =
    record {
      lists = (neighbor 1 f1 ∷ neighbor 2 f9 ∷ []) ∷ with0 f1 ∷ with0 f9 ∷ with0 f49 ∷ [];
      jobs = over 1 f1 ∷ over 3 f49 ∷ over 2 f9 ∷ [];
    }

to0 : at_opening ≡ at0
unfolding opened job_of each unfilled between carried nodes_apart lanes_of part distance_of answer fit total_of lane of_bits to_bits add sub mul
to0 = refl

to1 : moved_all 2 at0 (eight_of 0) ≡ at1
unfolding moved move_first move_second is_popped next_stage next_list look pop farthest insert before of_bits lt eq
to1 = refl

to2 : moved_all 2 at1 (eight_of 1) ≡ at2
unfolding moved move_first move_second is_popped next_stage next_list look pop farthest insert before of_bits lt eq
to2 = refl

to3 : moved_all 2 at2 (eight_of 2) ≡ at_end
unfolding moved move_first move_second is_popped next_stage next_list look pop farthest insert before of_bits lt eq
to3 = refl

whole : moved_all 2 at_opening (eight_of 0 ++ (eight_of 1 ++ eight_of 2)) ≡ at_end
whole =
    ap (λ (r : Relay). moved_all 2 r (eight_of 0 ++ (eight_of 1 ++ eight_of 2))) to0
    ∙ then_more 2 at0 (eight_of 0) (eight_of 1 ++ eight_of 2)
    ∙ ap (λ (r : Relay). moved_all 2 r (eight_of 1 ++ eight_of 2)) to1
    ∙ then_more 2 at1 (eight_of 1) (eight_of 2)
    ∙ ap (λ (r : Relay). moved_all 2 r (eight_of 2)) to2
    ∙ to3

pub ends : lists_i ≡ at_end.lists
ends = ap (λ (r : Relay). r.lists) whole
