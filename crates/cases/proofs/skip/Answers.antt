-- What the search leaves of `cases::skip`.
use Rattle.std.proofs.Common.{◌≡◌, sym, ◌∙◌, arith, rules}
use Rattle.cases.proofs.Laws.{skipped-end, skipped_stop, skipped_turn}
use Rattle.cases.proofs.skip.Goals as goal

pub returns-in-None : goal.returns-in-None
returns-in-None c = sym (skipped_stop _ _ _ (search rules) (sym c.after.ensures ∙ c.in-None.is)) ∙ c.loop-at.invariant.rest

pub loop-at-preserved : goal.loop-at-preserved
loop-at-preserved c = record {
  rest = skipped_turn c.args.text.now c.loop-at.at c.loop-at.mode c.in-Some.next (search rules) (sym c.after.ensures ∙ c.in-Some.is) ∙ c.loop-at.invariant.rest;
  within = omega arith;
}

pub returns : goal.returns
returns c = let e : c.max.result ≡ c.loop-at.at = omega arith in e ∙ sym (skipped-end _ _ _ (search rules)) ∙ c.loop-at.invariant.rest
