-- `descent::begin` meets its contract: the table, or the state that begins. Assumes nothing.
use Rattle.std.proofs.lemmas.Result.{err_from_is_err_and}
use mathlib.Core.Path.{refl}
use Prim.Native.Nat.{◌≤◌}
use native.Mathlib.Omega.{arith}
use Rattle.rules.specs.DescentCall.{DescentLent}
use Rattle.descent.specs.Descent.{lent}
use Rattle.descent.proofs.Table.{most-draws}
use Rattle.descent.proofs.Outcomes.{begin_refused, begin_ready, begin_few, begin_done}
use Rattle.descent.proofs.begin.Goals.{Start}
use Rattle.descent.proofs.begin.Goals as goal

-- what was lent
abbrev lent_to : Start → DescentLent
lent_to c =
    let a = c.args in
    lent a.dimension a.n a.lanes.now a.k a.s a.draws.now a.state_u.now a.state_f.now a.scratch_u.now a.scratch_f.now

pub returns-in_err-judge : goal.returns-in_err-judge
returns-in_err-judge c =
    let p = err_from_is_err_and c.from_residual.result c.from_residual.ensures.1 in
    rw (p.1, p.2) (begin_refused _ c.in_err-judge.ensures refl)

pub overflow_mul-n : goal.overflow_mul-n
overflow_mul-n c = let r = begin_ready (lent_to (goal.at.overflow_mul-n c).Start) c.judge.ensures c.in_ok-judge.was in let few = r.few_nodes in omega arith

pub overflow_mul-n-2 : goal.overflow_mul-n-2
overflow_mul-n-2 c = let r = begin_ready (lent_to (goal.at.overflow_mul-n-2 c).Start) c.judge.ensures c.in_ok-judge.was in let z = r.sizes in let few = z.few_s in let k = z.few_k in let p = most-draws _ _ r.few_nodes (let x : c.args.s ≤ 64 = omega arith in x) in omega arith

pub returns-then-draws-n : goal.returns-then-draws-n
returns-then-draws-n c = begin_few _ c.judge.ensures c.in_ok-judge.was c.if-draws-n.true

pub begin_state-requires : goal.begin_state-requires
begin_state-requires c =
    let r = begin_ready (lent_to (goal.at.begin_state-requires c).Start) c.judge.ensures c.in_ok-judge.was in
    let z = r.sizes in
    let some = r.some_nodes in
    let few = z.few_s in
    let k = z.few_k in
    record { le_n = (omega arith, r.few_nodes, k, omega arith, c.if-draws-n.false); words_len = (r.state_words, r.state_floats) }

pub returns : goal.returns
returns c = begin_done _ c.judge.ensures c.in_ok-judge.was c.if-draws-n.false c.begin_state.ensures (c.fill.ensures.after (λ y h. h)) refl (c.fill-2.ensures.after (λ y h. h)) refl
