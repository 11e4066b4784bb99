-- No node twice. Assumes nothing.
use Rattle.std.specs.Prelude.{Bool, true, not, ◌&&◌, List, [], ◌∷◌, ℕ}
use Rattle.rules.specs.Loops.{has}

-- a list that holds no node twice
unfoldable pub different : List ℕ → Bool
different [] = true
different (x ∷ xs) = not (has x xs) && different xs
