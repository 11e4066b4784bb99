-- What the search leaves of `relay_rows::unfit_row`.
use mathlib.Core.Path.{refl}
use Prim.Native.Nat.{◌<◌}
use native.Mathlib.Omega.{arith}
use Rattle.rules.specs.Refusals.{job_count, decision_of, code_of}
use Rattle.relay_rows.proofs.Laws.{measuring_none, measuring_found, measuring_turn, measuring_end}
use borrow.Author.Rules.{rules}
use Rattle.relay_rows.proofs.unfit_row.Goals as goal

pub loop-i-init : goal.loop-i-init
loop-i-init c = measuring_none refl

pub overflow_mul-u : goal.overflow_mul-u
overflow_mul-u c = let t = c.loop-i-test.true in let all = c.loop-i.invariant.all in search rules

pub offset_bounds-jobs-i : goal.offset_bounds-jobs-i
offset_bounds-jobs-i c = let t = c.loop-i-test.true in let all = c.loop-i.invariant.all in search rules

pub bounds-jobs-i : goal.bounds-jobs-i
bounds-jobs-i c = let t = c.loop-i-test.true in let all = c.loop-i.invariant.all in omega arith

pub overflow_mul-v : goal.overflow_mul-v
overflow_mul-v c = let t = c.loop-i-test.true in let all = c.loop-i.invariant.all in search rules

pub overflow_add-v : goal.overflow_add-v
overflow_add-v c = let t = c.loop-i-test.true in let all = c.loop-i.invariant.all in search rules

pub offset_bounds-jobs-i-in-loop-i : goal.offset_bounds-jobs-i-in-loop-i
offset_bounds-jobs-i-in-loop-i c = let t = c.loop-i-test.true in let all = c.loop-i.invariant.all in search rules

pub bounds-jobs-i-in-loop-i : goal.bounds-jobs-i-in-loop-i
bounds-jobs-i-in-loop-i c = let t = c.loop-i-test.true in let all = c.loop-i.invariant.all in omega arith

pub unfit_job-requires : goal.unfit_job-requires
unfit_job-requires c = let p = c.requires in let all = c.loop-i.invariant.all in let t = c.loop-i-test.true in let h : c.loop-i.i < job_count c.args.jobs.now = omega arith in (p.us _ h, p.vs _ h)

pub returns-then-unfit_job : goal.returns-then-unfit_job
unfolding decision_of code_of
returns-then-unfit_job c = measuring_found c.loop-i.invariant c.loop-i-test.true c.unfit_job.ensures c.if-unfit_job.true

pub loop-i-preserved : goal.loop-i-preserved
loop-i-preserved c = measuring_turn c.loop-i.invariant c.loop-i-test.true c.unfit_job.ensures c.if-unfit_job.false

pub returns : goal.returns
unfolding decision_of code_of
returns c = measuring_end c.loop-i.invariant c.loop-i-test.false
