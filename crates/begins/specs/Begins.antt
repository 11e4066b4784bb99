-- What a begin leaves in a descent's state. Assumes nothing.
use Rattle.std.specs.Prelude.{◌≡◌, List, ℕ, Float}
use Rattle.rules.specs.Descent.{begun}
use Rattle.rules.specs.Places.{list_floats}
use Rattle.rules.specs.DescentPlaces.{descent_state}

pub record Begun (n k s : ℕ) (draws us : List ℕ) (fs : List Float) : Type 0 where
  pub words : us ≡ descent_state n (begun draws n k s)
  pub floats : fs ≡ list_floats (begun draws n k s).lists
