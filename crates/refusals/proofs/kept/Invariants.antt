-- `refusals::kept` meets its contract: what is left says what the whole says. Assumes nothing.
use Rattle.std.proofs.Common.{◌≡◌, drop}
use Rattle.refusals.specs.Junk.{stands}
use Rattle.refusals.proofs.kept.Given as goal

abbrev pub invariant-loop-i : goal.invariant-loop-i
invariant-loop-i g l =
    stands g.T.Rising.next g.T.PartialEq.eq l.from l.i l.v (drop l.i l.xs) ≡ stands g.T.Rising.next g.T.PartialEq.eq l.from 0 l.fn.first l.xs
