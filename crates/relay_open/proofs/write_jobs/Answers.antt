-- What the search leaves of `relay_open::write_jobs`.
use native.Mathlib.Omega.{arith}
use Rattle.relay_open.proofs.Jobs.{jobs_start, jobs_turn}
use Rattle.relay_open.proofs.write_jobs.Goals as goal

pub loop-i-init : goal.loop-i-init
loop-i-init c =
    let p = c.requires.words_len in
    jobs_start _ _ _ _ _ _ p.0 p.1 (c.fill.ensures.after (λ y e. e)) (c.fill-2.ensures.after (λ y e. e))

pub loop-i-preserved : goal.loop-i-preserved
loop-i-preserved c =
    let few = c.requires.lanes_len.few in
    rw c.job_distance.ensures (jobs_turn _ _ c.loop-i.invariant (omega arith))
