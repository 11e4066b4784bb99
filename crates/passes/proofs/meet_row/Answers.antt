-- What the search leaves of `passes::meet_row`.
use mathlib.Core.Path.{◌≡◌}
use native.Mathlib.Omega.{arith}
use lib.ListN.{length}
use Rattle.passes.proofs.Laws.{doing_none, doing_more, doing_pairs, row_is}
use Rattle.passes.proofs.meet_row.Goals as goal

pub loop-v-init : goal.loop-v-init
loop-v-init c = doing_none _ _ 1 _ _ _ _

pub loop-v-preserved : goal.loop-v-preserved
loop-v-preserved c =
    doing_more _ _ 1 _ c.loop-v.invariant c.meet_one-total.ensures (omega arith)

pub returns : goal.returns
returns c =
    let i = c.loop-v.v-index in
    let past = c.loop-v-test.false in
    let vs = c.args.vs.now in
    let e : i ≡ length vs = omega arith in
    doing_pairs 1 _ _ i c.loop-v.invariant (rw e (row_is _ _ vs)) (omega arith)
