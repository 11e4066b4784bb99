-- `kinds::iterations` meets its contract. Assumes nothing.
use Rattle.std.proofs.Common.{rules}
use Rattle.kinds.specs.Kinds.{behind_iteration}
use Rattle.kinds.proofs.Laws.{iteration_fault}
use Rattle.kinds.proofs.iterations.Goals as goal

pub returns : goal.returns
unfolding behind_iteration
returns c = c.times.ensures (behind_iteration c.args.text.now c.args.n c.args.k) (record { goes = λ x r e. search rules; stays = iteration_fault _ _ _ })
