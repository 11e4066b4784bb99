-- `main` meets its contract: the chain of setters gives the four parameters that were set.
use lib.Ieee.{of_bits, eq}
use Rattle.params_main.proofs.main.Goals as goal

pub expect-requires-4 : goal.expect-requires-4
unfolding eq of_bits
expect-requires-4 c = rw c.threshold-p.ensures
