-- What the search leaves of `relay_rows::first_bad_job`.
use mathlib.Core.Path.{refl}
use Prim.Native.Nat.{◌+◌, ◌*◌}
use native.Mathlib.Omega.{arith}
use Rattle.relay_rows.proofs.Laws.{seek_none, seek_u, seek_v, seek_turn, seek_end}
use borrow.Author.Rules.{rules}
use Rattle.relay_rows.proofs.first_bad_job.Goals as goal

pub loop-i-init : goal.loop-i-init
loop-i-init c = seek_none refl

pub overflow_mul-i : goal.overflow_mul-i
overflow_mul-i c = let t = c.loop-i-test.true in let all = c.loop-i.invariant.all in search rules

pub offset_bounds-jobs-i : goal.offset_bounds-jobs-i
offset_bounds-jobs-i c = let t = c.loop-i-test.true in let all = c.loop-i.invariant.all in search rules

pub bounds-jobs-i : goal.bounds-jobs-i
bounds-jobs-i c = let t = c.loop-i-test.true in let all = c.loop-i.invariant.all in omega arith

pub overflow_cast-jobs : goal.overflow_cast-jobs
overflow_cast-jobs c = omega (arith, c.type_inv.jobs (2 * c.loop-i.i))

pub returns-then-n-jobs : goal.returns-then-n-jobs
returns-then-n-jobs c = seek_u c.loop-i.invariant c.loop-i-test.true c.if-n-jobs.true

pub overflow_mul-i-in-loop-i : goal.overflow_mul-i-in-loop-i
overflow_mul-i-in-loop-i c = let t = c.loop-i-test.true in let all = c.loop-i.invariant.all in search rules

pub overflow_add-i : goal.overflow_add-i
overflow_add-i c = let t = c.loop-i-test.true in let all = c.loop-i.invariant.all in search rules

pub offset_bounds-jobs-i-in-loop-i : goal.offset_bounds-jobs-i-in-loop-i
offset_bounds-jobs-i-in-loop-i c = let t = c.loop-i-test.true in let all = c.loop-i.invariant.all in search rules

pub bounds-jobs-i-in-loop-i : goal.bounds-jobs-i-in-loop-i
bounds-jobs-i-in-loop-i c = let t = c.loop-i-test.true in let all = c.loop-i.invariant.all in omega arith

pub overflow_cast-jobs-in-loop-i : goal.overflow_cast-jobs-in-loop-i
overflow_cast-jobs-in-loop-i c = omega (arith, c.type_inv.jobs (2 * c.loop-i.i + 1))

pub returns-then-n-jobs-2 : goal.returns-then-n-jobs-2
returns-then-n-jobs-2 c = seek_v c.loop-i.invariant c.loop-i-test.true c.if-n-jobs.false c.if-n-jobs-2.true

pub loop-i-preserved : goal.loop-i-preserved
loop-i-preserved c = seek_turn c.loop-i.invariant c.loop-i-test.true c.if-n-jobs.false c.if-n-jobs-2.false

pub returns : goal.returns
returns c = seek_end c.loop-i.invariant c.loop-i-test.false
