-- `exact::offer` meets its contract: `q` itself, a node that goes behind, and one that is pushed. Assumes nothing.
use mathlib.Core.Path.{sym, ◌∙◌}
use Rattle.exact.proofs.Laws.{offered-behind}
use Rattle.exact.proofs.offer.Goals as goal

pub returns-then-goes_behind : goal.returns-then-goes_behind
returns-then-goes_behind c =
    let pre = c.requires.le_k in
    offered-behind pre.1 pre.2 pre.3 c.if-i-q.false (sym c.goes_behind.ensures ∙ c.if-goes_behind.true)
