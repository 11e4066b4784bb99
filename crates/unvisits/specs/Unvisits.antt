-- The new lists in contexts, and their pairs unvisited. Assumes nothing.
use Rattle.std.specs.Prelude.{Bool, List, ℕ, ◌*◌, ◌≤◌, ◌<◌, length, drop}
use Rattle.rules.specs.Loops.{turns, through}
use Rattle.rules.specs.Descent.{unvisit}
use Rattle.rules.specs.DescentPlaces.{members_in}
use Rattle.passes.specs.Passes.{Members}

-- the new list of node i in contexts
abbrev pub new_in : List ℕ → ℕ → List ℕ
new_in contexts i = members_in (drop (260 * i) contexts)

-- the pairs of the first i nodes unvisited
unfoldable pub unvisit_each : ℕ → List ℕ → ℕ → List Bool → List Bool
unvisit_each n contexts i flags = turns (λ (j : ℕ) (v : List Bool). through (unvisit n j) (new_in contexts j) v) i flags

pub record News (n : ℕ) (contexts : List ℕ) : Type 0 where
  pub each : (i : ℕ) → i < n → Members n (drop (260 * i) contexts)
  pub room : 260 * n ≤ length contexts
