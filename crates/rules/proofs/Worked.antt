-- One iteration and one look, worked by the Rust (cases 88 and 114 of oracle/lists/small.txt), and three steps by 01's words, computed. Assumes nothing.
use mathlib.Core.Path.{◌≡◌, refl}
use mathlib.Core.Bool.{Bool, true, false}
use mathlib.Core.List.{List, [], ◌∷◌}
use Prim.Native.Nat.{ℕ}
use lib.Ieee.{Float, binary32, of_bits, to_bits, add, sub, mul, lt, eq}
use Rattle.rules.specs.declared.Neighbor.{Neighbor}
use Rattle.rules.specs.Loops.{turns, through, each, part}
use Rattle.rules.specs.Distance.{lane, total_of, fit, answer, distance_of, carried, lanes_of, nodes_apart, between, before}
use Rattle.rules.specs.Lists.{neighbor, insert}
use Rattle.rules.specs.Rows.{empty_slot}
use Rattle.rules.specs.Search.{farthest}
use Rattle.rules.specs.Offers.{look, pop, offer}
use Rattle.rules.specs.Descent.{Context, Descent, Iterated, cross, own_pairs, rising_with, rising_pairs, passes, offer_to, update, visit, is_visited, unvisit, meet, meet_all, new_of, old_of, swap, shuffle_from, shuffle, drawn_after, kept_new, kept_back, renew, renew_all, unvisit_all, members_back, reversed_old_of, reversed_new_of, context_of, renewed, iterated}
use Rattle.rules.specs.Relay.{Stage, fresh, looked, measured, popped, Relay, is_popped, next_stage, next_list, move_first, move_second, moved}
use Rattle.rules.specs.DescentPlaces.{word_of, pair_words, bit_at}

abbrev f : ℕ → Float
f bits = of_bits binary32 bits

abbrev context : List ℕ → List ℕ → List ℕ → List ℕ → Context
context new old reversed_new reversed_old =
    record { new = new; old = old; reversed_new = reversed_new; reversed_old = reversed_old }

-- ---- an iteration: n 4, k 3, s 2, dimension 2

-- (2, 4), (3, 0), (2, 1), (1, 0)
abbrev lanes : List Float
lanes =
    f 0x40000000 ∷ f 0x40800000 ∷ f 0x40400000 ∷ f 0 ∷ f 0x40000000 ∷ f 0x3F800000 ∷ f 0x3F800000 ∷ f 0 ∷ []

abbrev start : Descent
start =
    record {
      lists =
          (neighbor 1 (f 1077936128) ∷ neighbor 2 (f 1084227584) ∷ neighbor 3 (f 1099431936) ∷ [])
          ∷ (neighbor 2 (f 1084227584) ∷ empty_slot 4 ∷ empty_slot 4 ∷ [])
          ∷ (neighbor 1 (f 1073741824) ∷ neighbor 3 (f 1073741824) ∷ neighbor 3 (f 1090519040) ∷ [])
          ∷ (neighbor 1 (f 1082130432) ∷ neighbor 1 (f 1088421888) ∷ empty_slot 4 ∷ [])
          ∷ [];
      contexts =
          context (0 ∷ 1 ∷ []) (2 ∷ 2 ∷ []) (1 ∷ 2 ∷ []) (0 ∷ [])
          ∷ context (2 ∷ []) (0 ∷ 1 ∷ 1 ∷ []) (3 ∷ 2 ∷ []) []
          ∷ context [] (3 ∷ 2 ∷ 1 ∷ []) (2 ∷ 2 ∷ []) (1 ∷ [])
          ∷ context (1 ∷ 0 ∷ 2 ∷ []) [] [] []
          ∷ [];
      visited = each (λ (p : ℕ). bit_at (32 ∷ []) p ∷ []) 16;
    }

abbrev draws : List ℕ
draws = 31 ∷ 91 ∷ 34 ∷ 32 ∷ 47 ∷ 76 ∷ 79 ∷ 14 ∷ 54 ∷ 55 ∷ 17 ∷ 37 ∷ 74 ∷ 94 ∷ 16 ∷ 7 ∷ 95 ∷ 77 ∷ 42 ∷ 12 ∷ 79 ∷ 79 ∷ 59 ∷ 39 ∷ []

abbrev once : Iterated
once = iterated (between lanes 2) draws 4 3 2 start

-- three times the same node at the same distance
abbrev thrice : ℕ → ℕ → List Neighbor
thrice node bits = neighbor node (f bits) ∷ neighbor node (f bits) ∷ neighbor node (f bits) ∷ []

-- the pairs of each flag, as words
abbrev words : List Bool → List ℕ
words flags = pair_words 1 flags

pub record Iteration : Type 0 where
  pub cost : once.cost ≡ 33
  pub new : once.new ≡ 12
  pub lists :
      once.descent.lists
      ≡ (neighbor 1 (f 1077936128) ∷ neighbor 2 (f 1084227584) ∷ neighbor 2 (f 1091567616) ∷ [])
      ∷ thrice 2 1073741824
      ∷ thrice 1 1073741824
      ∷ thrice 2 1073741824
      ∷ []
  pub contexts :
      once.descent.contexts
      ≡ context (2 ∷ []) [] (0 ∷ 3 ∷ []) []
      ∷ context (2 ∷ []) [] (0 ∷ 3 ∷ []) []
      ∷ context (1 ∷ []) [] (0 ∷ 3 ∷ []) []
      ∷ context (2 ∷ []) [] (0 ∷ 3 ∷ []) []
      ∷ []
  pub visited : words once.descent.visited ≡ 15803 ∷ []

pub iteration : Iteration
unfolding turns through each part lane total_of fit answer distance_of carried lanes_of nodes_apart between before insert farthest look pop offer cross own_pairs rising_with rising_pairs passes offer_to update visit is_visited unvisit meet meet_all new_of old_of swap shuffle_from shuffle drawn_after kept_new kept_back renew renew_all unvisit_all members_back reversed_old_of reversed_new_of context_of renewed iterated word_of pair_words bit_at of_bits to_bits add sub mul lt eq
iteration = record { cost = refl; new = refl; lists = refl; contexts = refl; visited = refl }

-- ---- a look at a list longer than k: k 1, and the list's last is the unfilled entry behind a nearer one

abbrev relay : Stage → Relay
relay second =
    record {
      lists = [] ∷ [] ∷ (neighbor 4 (f 1065353216) ∷ empty_slot 5 ∷ []) ∷ [] ∷ [] ∷ [];
      jobs = record { u = 0; v = 2; distance = f 1098907648; first = popped true true; second = second } ∷ [];
    }

pub look-at-last : moved 1 (relay fresh) 0 ≡ relay (looked true)
unfolding moved move_second is_popped next_stage next_list look farthest of_bits lt
look-at-last = refl

-- ---- steps of a job (1, 2) with k 1, at the distance of list 1's last: by 01's sentences

abbrev pair : ℕ → List Neighbor → Stage → Relay
pair v list first =
    record {
      lists = [] ∷ list ∷ [] ∷ [];
      jobs = record { u = 1; v = v; distance = f 1065353216; first = first; second = fresh } ∷ [];
    }

-- "look (taken up unless the distance is greater than the list's last)": an equal distance is taken up
pub look-at_equal : moved 1 (pair 2 (neighbor 0 (f 1065353216) ∷ []) fresh) 0 ≡ pair 2 (neighbor 0 (f 1065353216) ∷ []) (looked true)
unfolding moved move_first is_popped next_stage next_list look farthest of_bits lt
look-at_equal = refl

-- "all eight of a job with u = v, do nothing": its look takes nothing up
pub look_of_itself : moved 1 (pair 1 (neighbor 0 (f 1065353216) ∷ []) fresh) 0 ≡ pair 1 (neighbor 0 (f 1065353216) ∷ []) (looked false)
unfolding moved move_first is_popped next_stage next_list
look_of_itself = refl

-- "pop the last if so"
pub pop_of_last : moved 1 (pair 2 (neighbor 0 (f 1065353216) ∷ neighbor 2 (f 1065353216) ∷ []) (measured true true)) 0 ≡ pair 2 (neighbor 0 (f 1065353216) ∷ []) (popped true true)
unfolding moved move_first is_popped next_stage next_list pop
pop_of_last = refl
