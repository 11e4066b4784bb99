-- `prune::keep` meets its contract: one p that is occluded, and one that is not. Assumes nothing.
use mathlib.Core.Path.{sym, ◌∙◌}
use Rattle.prune.proofs.Laws.{kept_none, kept_more}
use Rattle.prune.proofs.keep.Goals as goal

pub returns-then-occluded : goal.returns-then-occluded
returns-then-occluded c =
    let pre = c.requires.kept_lt_index_size in
    kept_none pre.1 pre.2 pre.0 (sym c.occluded.ensures ∙ c.if-occluded.true)

pub returns : goal.returns
returns c =
    let pre = c.requires.kept_lt_index_size in
    kept_more pre.1 pre.2 pre.0 (sym c.occluded.ensures ∙ c.if-occluded.false)
