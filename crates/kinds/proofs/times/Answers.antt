-- What the search leaves of `kinds::times`.
use Rattle.std.proofs.Common.{◌≡◌, ℕ, ◌-◌, sym, ap, ◌∙◌, arith, rules}
use Rattle.kinds.specs.Kinds.{times}
use Rattle.kinds.proofs.Laws.{times_fault, times_turn, times_none}
use Rattle.kinds.proofs.times.Goals as goal

pub loop-init : goal.loop-init
loop-init g c = λ made h. (let e : c.args.count - 0 ≡ c.args.count = omega arith in ap (λ (n : ℕ). times made n c.args.c) e)

pub returns-then-is_some : goal.returns-then-is_some
returns-then-is_some g c = λ made h. sym (times_fault made h.stays _ _ (sym c.is_some.ensures ∙ c.if-is_some.true)) ∙ c.loop.invariant made h

pub loop-preserved : goal.loop-preserved
loop-preserved g c = λ made h. times_turn made _ _ _ _ (h.goes _ _ (search rules)) (search rules) ∙ c.loop.invariant made h

pub returns : goal.returns
returns g c = λ made h. times_none made _ _ (search rules) ∙ c.loop.invariant made h
