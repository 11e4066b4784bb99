-- What the search leaves of `unvisits::unvisit_row`.
use Rattle.unvisits.proofs.Laws.{row_none, row_more}
use Rattle.unvisits.proofs.unvisit_row.Goals as goal

pub loop-v-init : goal.loop-v-init
loop-v-init c = row_none _ _ _ c.args.vs.now _

pub loop-v-preserved : goal.loop-v-preserved
loop-v-preserved c = let below = c.loop-v-test.true in row_more _ _ _ _ c.loop-v.invariant c.unvisit.ensures below
