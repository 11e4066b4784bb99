-- The numbers of a search in a list, each with the most that it may be. Assumes nothing.
use Rattle.std.specs.Prelude.{List, ℕ, ◌+◌}
use Rattle.cases.specs.declared.Cursor.{Cursor}
use Rattle.cases.specs.Text.{size_at, area_of}
use Rattle.replay_search.specs.declared.shape.Shape.{Shape}

-- The query stands behind the lanes, as one counter more.
unfoldable pub shape_at : List ℕ → Cursor → Shape
shape_at text c =
    let d = size_at 64 text c in
    let n = size_at 256 text d.cursor in
    let row = size_at 64 text n.cursor in
    let k = size_at 64 text row.cursor in
    let roots = size_at 64 text k.cursor in
    record {
      dimension = d.value;
      n = n.value;
      points = area_of (n.value + 1) d.value;
      row = row.value;
      k = k.value;
      roots = roots.value;
      cursor = roots.cursor;
    }
