-- `lists::push_cut` meets its contract: `pushed_none` and `pushed-cut`, from what `place_of` and `shift_up` ensure. Assumes nothing.
use Rattle.lists.proofs.Slices.{pushed_none, pushed_cut}
use Rattle.lists.proofs.push_cut.Goals as goal

pub returns-then-k-p : goal.returns-then-k-p
returns-then-k-p c =
    let pre = c.requires in
    pushed_none pre.0 pre.1 pre.2 c.place_of-p.ensures c.if-k-p.true

pub returns : goal.returns
returns c =
    let pre = c.requires in
    pushed_cut pre.0 pre.1 pre.2 c.place_of-p.ensures _ _ _ c.if-k-p.false c.min-last.ensures
    c.shift_up.ensures.nodes_after c.shift_up.ensures.dists_after
