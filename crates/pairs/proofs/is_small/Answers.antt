-- `is_small` meets its contract: both comparisons fail of a NaN. Assumes nothing.
use Rattle.pairs.proofs.Sizes.{both_tests, first-test}
use Rattle.pairs.proofs.is_small.Goals as goal

pub returns-then-x : goal.returns-then-x
returns-then-x c = both_tests _ c.if-x.true

pub returns : goal.returns
returns c = first-test _ c.if-x.false
