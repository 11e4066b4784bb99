-- `refusals::read_lanes` meets its contract. Assumes nothing.
use Rattle.std.proofs.Common.{rules}
use Rattle.refusals.specs.Given.{bits_of, lanes_at, run_in}
use Rattle.refusals.proofs.read_lanes.Goals as goal

pub returns-clause-out_after : goal.returns-clause-out_after
unfolding run_in lanes_at
returns-clause-out_after c = c.read_run_of.ensures.out_after bits_of (λ x r fits e. search rules)
