-- `lines::value` meets its contract: zero over zero is the NaN. Assumes nothing.
use lib.Ieee.{of_bits}
use Rattle.lines.specs.Words.{value_of}
use Rattle.lines.proofs.value.Goals as goal

pub returns-then-is_nan : goal.returns-then-is_nan
unfolding value_of of_bits
returns-then-is_nan c = rw (← c.is_nan.ensures, c.if-is_nan.true)
