-- `steps::offer` meets its contract: an offer that is taken up, and one that is not. Assumes nothing.
use mathlib.Core.Path.{sym, ◌∙◌}
use Rattle.steps.proofs.Slices.{offered-taken, offered-left}
use Rattle.steps.proofs.offer.Goals as goal

pub returns-then-look : goal.returns-then-look
returns-then-look c =
    let pre = c.requires in
    offered-taken _ _ _ pre.0 pre.1 pre.2 (sym c.look.ensures ∙ c.if-look.true) c.push_cut.ensures

pub returns-else-look : goal.returns-else-look
returns-else-look c =
    let pre = c.requires in
    offered-left _ _ _ pre.0 pre.1 pre.2 (sym c.look.ensures ∙ c.if-look.false)
