-- What the search leaves of `clear`.
use mathlib.Core.Path.{refl, sym, ◌∙◌}
use borrow.Author.Rules.{rules}
use Rattle.rules.specs.Distance.{nodes_apart}
use Rattle.kernels.proofs.Pairs.{totals_fit, fit_none, fit_turn, fit-not, fit-end}
use Rattle.kernels.proofs.clear.Goals as goal

pub loop-j-init : goal.loop-j-init
loop-j-init c = (search rules, search rules, fit_none _ _ _ _ refl)

pub returns-then-not-all_fit : goal.returns-then-not-all_fit
returns-then-not-all_fit c =
    let args = c.args in
    fit-not (nodes_apart args.counters.lanes.now args.counters.dimension) args.counters.n args.base c.loop-j.j (search rules) (search rules)
    (sym (totals_fit args.counters.lanes.now args.counters.dimension args.counters.n args.base _ _ c.totals8-totals.result c.loop-j.j c.block_of-block.ensures c.lanes_of-y.ensures.contents c.lanes_of-y.ensures.long c.totals8-totals.ensures) ∙ sym c.all_fit.ensures ∙ c.if-not-all_fit.true)

pub loop-j-preserved : goal.loop-j-preserved
loop-j-preserved c =
    let args = c.args in (
      search rules,
      search rules,
      fit_turn (nodes_apart args.counters.lanes.now args.counters.dimension) args.counters.n args.base c.loop-j.j (search rules) c.loop-j.invariant.2
          (sym (totals_fit args.counters.lanes.now args.counters.dimension args.counters.n args.base _ _ c.totals8-totals.result c.loop-j.j c.block_of-block.ensures c.lanes_of-y.ensures.contents c.lanes_of-y.ensures.long c.totals8-totals.ensures) ∙ sym c.all_fit.ensures ∙ c.if-not-all_fit.false),
    )

pub returns : goal.returns
returns c = fit-end _ _ _ _ (search rules) (search rules) c.loop-j.invariant.2
