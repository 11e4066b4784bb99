-- What the search leaves of `relay_orders::run::moved`.
use Rattle.std.proofs.Common.{refl, ◌∙◌}
use Rattle.relay_orders.proofs.Runs.{step_made, moved_turn, moved-end}
use Rattle.relay_orders.proofs.run.moved.Goals as goal

pub loop-job-preserved : goal.loop-job-preserved
loop-job-preserved c =
    let l = c.loop-job in
    moved_turn _ _ l.words l.floats l.count c.args.order.now l.job-index _ _ c.loop-job-test.true
    c.index.ensures (step_made _ _ _ _ _ _ _ _ _ _ _ c.move_job-answer.ensures c.refused-count.ensures refl) ∙ l.invariant

pub returns : goal.returns
returns c =
    let l = c.loop-job in
    moved-end _ _ l.words l.floats l.count c.args.order.now l.job-index c.loop-job-test.false ∙ l.invariant
