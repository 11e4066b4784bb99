-- What the search leaves of `lines::find`.
use Rattle.std.proofs.Common.{◌≡◌, sym, refl, ◌∙◌, arith, rules}
use Rattle.lines.proofs.Laws.{end-end, end_stop, end_turn}
use Rattle.lines.proofs.find.Goals as goal

pub loop-at-init : goal.loop-at-init
loop-at-init c = record { within = omega arith; same = refl }

pub returns-then-stops : goal.returns-then-stops
returns-then-stops c =
    sym (end_stop _ _ _ (search rules) (sym c.stops.ensures ∙ c.if-stops.true)) ∙ c.loop-at.invariant.same

pub loop-at-preserved : goal.loop-at-preserved
loop-at-preserved c = record {
  within = omega arith;
  same = end_turn c.args.text.now c.loop-at.at _ (search rules) (sym c.stops.ensures ∙ c.if-stops.false) ∙ c.loop-at.invariant.same;
}

pub returns : goal.returns
returns c =
    let at_end : c.loop-at.at ≡ c.max.result = omega (arith, c.loop-at.invariant.within) in
    rw (← at_end) (sym (end-end _ _ _ (search rules)) ∙ c.loop-at.invariant.same)
