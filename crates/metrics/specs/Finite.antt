-- Finite lanes. Assumes nothing.
use Rattle.std.specs.Prelude.{List, [], ◌∷◌, T, Float}
use Rattle.std.specs.Float.Ieee.Scale.{finite}

unfoldable pub AllFinite : List Float → Type 0
AllFinite [] = Unit
AllFinite (x ∷ xs) = T (finite x) × AllFinite xs
