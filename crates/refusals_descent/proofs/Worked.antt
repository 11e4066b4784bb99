-- Small states, computed: a run of words, one that ends with the slice, and the front of a formed state of two nodes. Assumes nothing.
use mathlib.Core.Path.{◌≡◌, refl}
use mathlib.Core.List.{[], ◌∷◌}
use Rattle.cases.specs.Text.{area_of}
use Rattle.refusals_descent.specs.Given.{filled}
use Rattle.refusals_descent.specs.State.{with_context, formed_words}

run : filled 1 2 9 (0 ∷ 0 ∷ 0 ∷ 0 ∷ []) ≡ 0 ∷ 9 ∷ 9 ∷ 0 ∷ []
unfolding filled
run = refl

run_to_the_end : filled 3 5 9 (0 ∷ 0 ∷ 0 ∷ 0 ∷ []) ≡ 0 ∷ 0 ∷ 0 ∷ 9 ∷ []
unfolding filled
run_to_the_end = refl

-- two unfilled lists of one entry, then one new member of node 0: node 1
formed : formed_words 2 1 6 ≡ 2 ∷ 2 ∷ 1 ∷ 1 ∷ 0 ∷ 0 ∷ []
unfolding formed_words with_context filled area_of
formed = refl
