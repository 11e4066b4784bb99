-- `cases::read_floats` meets its contract. Assumes nothing.
use Rattle.std.proofs.Common.{rules}
use Rattle.cases.specs.Text.{float_of, floats_at}
use Rattle.cases.proofs.read_floats.Goals as goal

pub returns-clause-out_after : goal.returns-clause-out_after
unfolding floats_at
returns-clause-out_after c = c.read_all.ensures.out_after float_of (λ x r fits e. search rules)
