-- `build::wrong_threshold` meets its contract. Assumes nothing.
use lib.Ieee.{le, neg, of_bits}
use Rattle.rules.specs.Numbers.{bad_threshold}
use Rattle.build.proofs.wrong_threshold.Goals.{then-threshold, else-threshold}
use Rattle.build.proofs.wrong_threshold.Goals as goal

pub returns : goal.returns
unfolding bad_threshold le neg of_bits
returns c = elim c.if-threshold.branch [ then-threshold w ↦ rw (w.result-is, w.if-threshold.true) | else-threshold w ↦ rw (w.result-is, w.if-threshold.false) ]
