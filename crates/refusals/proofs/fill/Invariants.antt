-- `refusals::fill` meets its contract: the first `i` places are filled. Assumes nothing.
use Rattle.refusals.proofs.Laws.{Filling}
use Rattle.refusals.proofs.fill.Given as goal

abbrev pub invariant-loop-i : goal.invariant-loop-i
invariant-loop-i g l = Filling g.T.Rising.next l.fn.first l.initial.xs l.xs l.i l.v
