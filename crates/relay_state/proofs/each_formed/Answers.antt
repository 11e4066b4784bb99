-- What the search leaves of `relay_state::each_formed`.
use mathlib.Core.Path.{sym, ◌∙◌}
use Rattle.zeros.proofs.Laws.{all_none}
use Rattle.relay_state.proofs.Parts.{job-not, job_turn}
use Rattle.relay_state.proofs.each_formed.Goals as goal

pub loop-i-init : goal.loop-i-init
loop-i-init c = all_none _

pub returns-then-not-job_formed : goal.returns-then-not-job_formed
returns-then-not-job_formed c =
    let p = c.requires in
    job-not _ _ c.args.dists.now _ _ p.0 p.2 c.loop-i-test.true (sym c.job_formed.ensures ∙ c.if-not-job_formed.true)

pub loop-i-preserved : goal.loop-i-preserved
loop-i-preserved c =
    let p = c.requires in
    job_turn _ _ c.args.dists.now _ _ p.0 p.2 c.loop-i-test.true c.loop-i.invariant (sym c.job_formed.ensures ∙ c.if-not-job_formed.false)
