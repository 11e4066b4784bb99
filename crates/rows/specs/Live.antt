-- The live part of a row in two slices, and a slice filled up. Assumes nothing.
use Rattle.std.specs.Prelude.{◌≡◌, List, ◌++◌, ℕ, ◌-◌, ◌≤◌, length, take, replicate, Float}
use Rattle.rules.specs.Lists.{entries}
use Rattle.rules.specs.Rows.{live}

-- whatever its nodes, the live part of a row w wide is its first r entries
pub record LiveIn (w : ℕ) (ds : List Float) (r : ℕ) : Type 0 where
  pub within : r ≤ w
  pub list : (ns : List ℕ) → w ≤ length ns → live (entries w ns ds) ≡ entries r ns ds

-- the first k, then a in every place left
unfoldable pub filled : {A : Type 0} → ℕ → A → List A → List A
filled k a xs = take k xs ++ replicate (length xs - k) a
