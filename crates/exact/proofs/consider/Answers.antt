-- `exact::consider` meets its contract: what is beyond the farthest changes nothing. Assumes nothing.
use mathlib.Core.Path.{sym, ap, ◌∙◌}
use lib.Ieee.{Float, lt}
use Rattle.exact.proofs.Laws.{offered_farther}
use Rattle.exact.proofs.consider.Goals as goal

pub returns-then-bound-x : goal.returns-then-bound-x
returns-then-bound-x c =
    let pre = c.requires in
    let own = pre.le_k in
    let list = pre.all_holdable in
    record {
      offered = offered_farther _ own.0 own.1 own.2 own.3 pre.i_bound.1 list.0 list.1 (sym (ap (λ (b : Float). lt b c.args.x) pre.i_bound.2) ∙ c.if-bound-x.true);
      beyond = pre.i_bound.2;
    }
