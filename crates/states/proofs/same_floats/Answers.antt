-- `states::same_floats` meets its contract. Assumes nothing.
use Rattle.std.proofs.Common.{◌∙◌}
use Rattle.states.specs.Same.{same_bits}
use Rattle.states.proofs.Laws.{in_step}
use Rattle.states.proofs.same_floats.Goals as goal

pub returns-then-a-b : goal.returns-then-a-b
returns-then-a-b c = c.same_beside.ensures ∙ in_step same_bits _ _ c.if-a-b.true
