-- The numbers of a relay in a list, each with the most that it may be. Assumes nothing.
use Rattle.std.specs.Prelude.{ℕ, List}
use Rattle.cases.specs.declared.Cursor.{Cursor}
use Rattle.cases.specs.Text.{size_at}
use Rattle.replay_relay.specs.declared.shape.Shape.{Shape}

unfoldable pub shape_at : List ℕ → Cursor → Shape
shape_at text c =
    let d = size_at 64 text c in
    let n = size_at 256 text d.cursor in
    let k = size_at 64 text n.cursor in
    record { dimension = d.value; n = n.value; k = k.value; cursor = k.cursor }
