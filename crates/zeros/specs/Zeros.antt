-- "unused places and unused bits zero", and a test of every place below a number. Assumes nothing.
use Rattle.std.specs.Prelude.{Bool, true, ◌&&◌, ◌==◌, List, ℕ, zero, suc}
use Rattle.std.specs.List.{list_all}

unfoldable pub zeros : List ℕ → Bool
zeros = list_all (λ x. x == 0)

-- the test holds of 0, 1, .., n - 1
unfoldable pub all_below : (ℕ → Bool) → ℕ → Bool
all_below p zero = true
all_below p (suc i) = all_below p i && p i
