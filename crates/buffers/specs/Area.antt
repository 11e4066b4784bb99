-- An area of a lent buffer: some places from one on. Assumes nothing.
use Rattle.std.specs.Prelude.{List, ℕ, take, drop}

module _ {A : Type 0} where
  -- w places from a on
  abbrev pub area : ℕ → ℕ → List A → List A
  area a w xs = take w (drop a xs)
