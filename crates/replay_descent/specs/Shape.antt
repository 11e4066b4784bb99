-- The numbers of a descent in a list, each with the most that it may be. Assumes nothing.
use Rattle.std.specs.Prelude.{List, ℕ, ◌+◌, ◌/◌}
use Rattle.cases.specs.declared.Cursor.{Cursor}
use Rattle.cases.specs.Text.{size_at, area_of}
use Rattle.replay_descent.specs.declared.shape.Shape.{Shape}

unfoldable pub shape_at : List ℕ → Cursor → Shape
shape_at text c =
    let d = size_at 64 text c in
    let n = size_at 48 text d.cursor in
    let k = size_at 64 text n.cursor in
    let s = size_at 64 text k.cursor in
    record { dimension = d.value; n = n.value; k = k.value; s = s.value; cursor = s.cursor }

-- "nk + 260n + (n*n + 31)/32 words"; a product of a length over 65,536 is 0, and no state is as large
unfoldable pub words_long : ℕ → ℕ → ℕ
words_long n k = area_of n k + area_of 260 n + (area_of n n + 31) / 32
