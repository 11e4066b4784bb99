-- Orders and numbers by their definitions, computed: two jobs one at a time, three in turn, both from the last on, and six draws. Assumes nothing.
use Rattle.std.proofs.Common.{◌≡◌, [], ◌∷◌, ◌++◌, replicate, refl}
use Rattle.relay_orders.specs.Order.{remainder, job_of, ruled, after, drawn, below}

one-at_a_time : ruled 0 2 16 0 16 ≡ replicate 8 0 ++ replicate 8 1
unfolding ruled job_of
one-at_a_time = refl

in_turn_lem : ruled 1 3 6 0 24 ≡ 0 ∷ 1 ∷ 2 ∷ 0 ∷ 1 ∷ 2 ∷ []
unfolding ruled job_of remainder
in_turn_lem = refl

last-first : ruled 2 2 16 0 16 ≡ replicate 8 1 ++ replicate 8 0
unfolding ruled job_of
last-first = refl

in_turn_from_the_last : ruled 3 3 6 0 24 ≡ 2 ∷ 1 ∷ 0 ∷ 2 ∷ 1 ∷ 0 ∷ []
unfolding ruled job_of remainder
in_turn_from_the_last = refl

draws : drawn (below 6) 6 (after 7) ≡ 4 ∷ 0 ∷ 0 ∷ 5 ∷ 2 ∷ 5 ∷ []
unfolding drawn after remainder
draws = refl
