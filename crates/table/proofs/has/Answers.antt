-- `table::has` meets its contract. Assumes nothing.
use mathlib.Core.Path.{◌∙◌}
use Rattle.table.proofs.Laws.{has_is}
use Rattle.table.proofs.has.Goals as goal

pub returns : goal.returns
returns c = c.contains.ensures.value ∙ has_is _ _
