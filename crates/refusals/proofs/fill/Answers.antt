-- What the search leaves of `refusals::fill`.
use Rattle.std.proofs.Common.{arith}
use Rattle.refusals.proofs.Laws.{filling_turn}
use Rattle.refusals.proofs.fill.Goals as goal

pub loop-i-preserved : goal.loop-i-preserved
loop-i-preserved g c =
    let long = c.loop-i.invariant.long in
    rw c.next-v.ensures (filling_turn g.T.Rising.next c.loop-i.invariant (omega arith))
