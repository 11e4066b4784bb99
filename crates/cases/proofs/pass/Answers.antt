-- What the search leaves of `cases::pass`.
use Rattle.std.proofs.Common.{◌≡◌, ℕ, ◌-◌, sym, ap, ◌∙◌, arith, rules}
use Rattle.cases.specs.Text.{behind}
use Rattle.cases.proofs.Laws.{behind_fault, behind_turn, behind_none}
use Rattle.cases.proofs.pass.Goals as goal

pub loop-init : goal.loop-init
loop-init c = let e : c.args.n - 0 ≡ c.args.n = omega arith in ap (λ (n : ℕ). behind n c.args.text.now c.args.c) e

pub returns-then-is_some : goal.returns-then-is_some
returns-then-is_some c = sym (behind_fault _ _ _ (sym c.is_some.ensures ∙ c.if-is_some.true)) ∙ c.loop.invariant

pub loop-preserved : goal.loop-preserved
loop-preserved c = behind_turn _ _ _ _ _ c.read_word.ensures (search rules) ∙ c.loop.invariant

pub returns : goal.returns
returns c = behind_none _ _ _ (search rules) ∙ c.loop.invariant
