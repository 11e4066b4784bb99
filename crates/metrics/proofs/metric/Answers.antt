-- What the search leaves of `metric`.
use mathlib.Core.Path.{◌≡◌, refl, sym, ◌∙◌}
use native.Mathlib.Omega.{arith}
use borrow.Author.Rules.{rules}
use Rattle.rules.specs.Distance.{total_of, lane, zero32}
use Rattle.metrics.proofs.Steps.{turn, ended, number, of_nan, of_fit, of_unfit, measured}
use Rattle.metrics.proofs.metric.Goals.{After-loop-i}
use Rattle.metrics.proofs.metric.Goals as goal

-- what the loop leaves is the whole total
whole : (c : After-loop-i) → c.loop-i.total ≡ total_of zero32 c.args.a.now c.args.b.now
whole c = sym (ended c.loop-i.total _ _ c.loop-i.i (omega arith)) ∙ c.loop-i.invariant.1

pub loop-i-init : goal.loop-i-init
loop-i-init c = (search rules, refl)

pub offset_bounds-a-i : goal.offset_bounds-a-i
offset_bounds-a-i c = omega arith

pub bounds-a-i : goal.bounds-a-i
bounds-a-i c = omega arith

pub offset_bounds-b-i : goal.offset_bounds-b-i
offset_bounds-b-i c = omega arith

pub bounds-b-i : goal.bounds-b-i
bounds-b-i c = omega arith

pub loop-i-preserved : goal.loop-i-preserved
unfolding lane
loop-i-preserved c =
    let at = c.loop-i in
    (omega arith, turn at.total _ _ at.i (omega arith) (omega arith) ∙ at.invariant.1)

pub returns-then-total : goal.returns-then-total
returns-then-total c = measured _ _ _ _ (of_nan _ c.if-total.true) (whole (goal.at.returns-then-total c).After-loop-i)

pub float_to_bits-bits : goal.float_to_bits-bits
float_to_bits-bits c = number _ c.if-total.false

pub returns-then-bits-le2139095038 : goal.returns-then-bits-le2139095038
returns-then-bits-le2139095038 c = measured _ _ _ _ (of_fit _ c.if-bits-le2139095038.true) (whole (goal.at.returns-then-bits-le2139095038 c).After-loop-i)

pub returns : goal.returns
returns c = measured _ _ _ _ (of_unfit _ c.if-bits-le2139095038.false) (whole (goal.at.returns c).After-loop-i)
