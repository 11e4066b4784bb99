-- `refusals::read_run_of` meets its contract: the part is as long as the run. Assumes nothing.
use Rattle.std.proofs.Common.{map}
use Rattle.cases.specs.Text.{words_at}
use Rattle.refusals.proofs.Laws.{run_behind, run_made}
use Rattle.refusals.proofs.read_run_of.Goals as goal

pub returns-clause-value : goal.returns-clause-value
returns-clause-value g c =
    let s = c.read_size-count in
    run_behind _ _ _ s.result s.ensures.value s.ensures.value_le_most _ c.read_all-cursor.ensures.value

pub returns-clause-out_after : goal.returns-clause-out_after
returns-clause-out_after g c = λ made gives.
    let s = c.read_size-count in
    run_made _ _ _ s.result s.ensures.value s.ensures.value_le_most (λ n t d. map made (words_at n t d)) c.read_all-cursor.new.out (c.read_all-cursor.ensures.out_after made gives)
