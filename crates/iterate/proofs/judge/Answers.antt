-- `iterate::judge` meets its contract: what begin tests too, the draws, the state. Assumes nothing.
use Rattle.std.proofs.lemmas.Result.{err_from_is_err_and}
use mathlib.Core.Path.{sym, ap, ◌∙◌, refl}
use native.Mathlib.Omega.{arith}
use Rattle.rules.specs.Refusals.{decision_of, code_of}
use Rattle.descent.proofs.Table.{most-draws, ready}
use Rattle.iterate.proofs.Table.{by_shared, by_draws, by_state, by_none}
use Rattle.iterate.proofs.judge.Goals as goal

pub returns-in_err-judge : goal.returns-in_err-judge
returns-in_err-judge c =
    let p = err_from_is_err_and c.from_residual.result c.from_residual.ensures.1 in
    rw (p.1, p.2) (by_shared _ _ _ _ _ _ _ _ _ _ _ _ c.in_err-judge.ensures refl)

pub overflow_mul-n : goal.overflow_mul-n
unfolding decision_of
overflow_mul-n c =
    let r = ready _ (sym c.judge.ensures ∙ ap decision_of c.in_ok-judge.was) in
    let few = r.few_nodes in
    omega arith

pub overflow_mul-n-2 : goal.overflow_mul-n-2
unfolding decision_of
overflow_mul-n-2 c =
    let r = ready _ (sym c.judge.ensures ∙ ap decision_of c.in_ok-judge.was) in
    let p = most-draws _ _ r.few_nodes r.sizes.few_k in
    omega arith

pub returns-then-draws-n : goal.returns-then-draws-n
unfolding decision_of code_of
returns-then-draws-n c = by_draws _ _ _ _ _ _ _ _ _ _ _ _ c.judge.ensures c.in_ok-judge.was c.if-draws-n.true

pub descent_formed-requires : goal.descent_formed-requires
unfolding decision_of
descent_formed-requires c =
    let r = ready _ (sym c.judge.ensures ∙ ap decision_of c.in_ok-judge.was) in
    record { nodes = r.few_nodes; few = r.sizes.few_k; words = r.state_words; floats = r.state_floats }

pub returns-then-descent_formed : goal.returns-then-descent_formed
unfolding decision_of code_of
returns-then-descent_formed c = by_none _ _ _ _ _ _ _ _ _ _ _ _ c.judge.ensures c.in_ok-judge.was c.if-draws-n.false (sym c.descent_formed.ensures ∙ c.if-descent_formed.true)

pub returns : goal.returns
unfolding decision_of code_of
returns c = by_state _ _ _ _ _ _ _ _ _ _ _ _ c.judge.ensures c.in_ok-judge.was c.if-draws-n.false (sym c.descent_formed.ensures ∙ c.if-descent_formed.false)
