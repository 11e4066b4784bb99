-- The numbers of a build in a list, each with the most that it may be. Assumes nothing.
use Rattle.std.specs.Prelude.{List, ℕ}
use Rattle.cases.specs.declared.Cursor.{Cursor}
use Rattle.cases.specs.Text.{word_at, size_at, float_of}
use Rattle.params.specs.Params.{params}
use Rattle.replay_build.specs.declared.shape.Shape.{Shape}

module _ (text : List ℕ) where
  -- "`init_k`; L = `index_size`; `neighbor_neighbor_size`; threshold bits"
  unfoldable pub taught_at : ℕ → ℕ → Cursor → Shape
  taught_at dimension n c =
      let init_k = size_at 64 text c in
      let row = size_at 64 text init_k.cursor in
      let hops = size_at 256 text row.cursor in
      let threshold = word_at text hops.cursor in
      record {
        dimension = dimension;
        n = n;
        params = params (float_of threshold.value) init_k.value row.value hops.value;
        cursor = threshold.cursor;
      }

  unfoldable pub shape_at : Cursor → Shape
  shape_at c =
      let d = size_at 64 text c in
      let n = size_at 256 text d.cursor in
      taught_at d.value n.value n.cursor
