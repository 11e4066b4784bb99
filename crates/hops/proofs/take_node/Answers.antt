-- `hops::take_node` meets its contract: a node taken before, and a new one. Assumes nothing.
use mathlib.Core.Path.{sym, ◌∙◌}
use Rattle.hops.proofs.Laws.{took_before, took_new}
use Rattle.hops.proofs.take_node.Goals as goal

pub returns-then-is_seen : goal.returns-then-is_seen
returns-then-is_seen c =
    let pre = c.requires in
    took_before pre.0 pre.1 pre.2 (sym c.is_seen.ensures ∙ c.if-is_seen.true)

pub returns : goal.returns
returns c =
    let pre = c.requires in
    took_new pre.0 pre.1 pre.2 (sym c.is_seen.ensures ∙ c.if-is_seen.false) c.mark_seen.ensures
