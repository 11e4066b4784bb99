-- `hops::hop` meets its contract: `q` itself, and another node. Assumes nothing.
use Rattle.hops.proofs.Laws.{hopped_self, hopped_other}
use Rattle.hops.proofs.hop.Goals as goal

pub returns-then-v-q : goal.returns-then-v-q
returns-then-v-q c =
    let pre = c.requires in
    hopped_self pre.0 pre.2 pre.3 c.if-v-q.true

pub returns : goal.returns
returns c =
    let pre = c.requires in
    hopped_other pre.0 pre.2 pre.3 c.if-v-q.false c.take_node.ensures
