-- What the search leaves of `totals8`.
use native.Mathlib.Omega.{arith}
use borrow.Author.Rules.{rules}
use Rattle.kernels.proofs.Laws.{summing_more, summed}
use Rattle.kernels.proofs.totals8.Goals as goal

pub loop-l-preserved : goal.loop-l-preserved
loop-l-preserved c = (search rules, summing_more c.loop-l.invariant.1 (search rules) c.lane8-next.ensures)

pub returns : goal.returns
returns c = summed c.loop-l.invariant.1 (omega arith)
