-- `lists::push` meets its contract: a push that keeps one more than there were loses none. Assumes nothing.
use Rattle.lists.proofs.Slices.{pushed-all}
use Rattle.lists.proofs.push.Goals as goal

pub returns : goal.returns
returns c =
    let pre = c.requires in
    pushed-all pre.0 pre.1 c.push_cut.ensures
