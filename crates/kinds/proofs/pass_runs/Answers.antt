-- `kinds::pass_runs` meets its contract. Assumes nothing.
use Rattle.std.proofs.Common.{rules}
use Rattle.kinds.specs.Kinds.{behind_run}
use Rattle.kinds.proofs.Laws.{run_fault}
use Rattle.kinds.proofs.pass_runs.Goals as goal

pub returns : goal.returns
unfolding behind_run
returns c = c.times.ensures (behind_run c.args.text.now) (record { goes = λ x r e. search rules; stays = run_fault _ })
