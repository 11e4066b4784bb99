-- What the search leaves of `first_unfit`.
use mathlib.Core.Path.{sym, ◌∙◌}
use Prim.Native.Nat.{◌+◌}
use native.Mathlib.Omega.{arith}
use borrow.Author.Rules.{rules}
use Rattle.rules.specs.Distance.{nodes_apart}
use Rattle.rules.specs.Refusals.{decision_of}
use Rattle.kernels.proofs.Pairs.{block-clear, clear_join, all-clear}
use Rattle.kernels.proofs.first_unfit.Goals as goal

pub loop-base-preserved : goal.loop-base-preserved
loop-base-preserved c =
    let args = c.args in
    (search rules, clear_join (nodes_apart args.counters.lanes.now args.counters.dimension) args.counters.n c.loop-base.base c.loop-base.invariant.1 (block-clear args.counters.lanes.now args.counters.dimension args.counters.n c.loop-base.base (sym c.clear.ensures ∙ c.if-not-clear.false)))

pub returns-else-counters-gt64 : goal.returns-else-counters-gt64
unfolding decision_of
returns-else-counters-gt64 c =
    let args = c.args in
    sym (all-clear (nodes_apart args.counters.lanes.now args.counters.dimension) args.counters.n c.loop-base.base (search rules) c.loop-base.invariant.1)

pub returns-else-not-clear : goal.returns-else-not-clear
unfolding decision_of
returns-else-not-clear c =
    let args = c.args in
    sym (all-clear (nodes_apart args.counters.lanes.now args.counters.dimension) args.counters.n (c.loop-base.base + 8) (omega arith)
    (clear_join (nodes_apart args.counters.lanes.now args.counters.dimension) args.counters.n c.loop-base.base c.loop-base.invariant.1 (block-clear args.counters.lanes.now args.counters.dimension args.counters.n c.loop-base.base (sym c.clear.ensures ∙ c.if-not-clear.false))))
