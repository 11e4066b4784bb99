-- `refusals::float_of` meets its contract: zero over zero is the NaN. Assumes nothing.
use Rattle.std.proofs.Common.{eq-eqb}
use lib.Ieee.{of_bits}
use Rattle.refusals.specs.Given.{bits_of}
use Rattle.refusals.proofs.float_of.Goals as goal

pub returns-then-bits-eq2143289344 : goal.returns-then-bits-eq2143289344
unfolding bits_of of_bits
returns-then-bits-eq2143289344 c = rw (eq-eqb _ _ c.if-bits-eq2143289344.true)
