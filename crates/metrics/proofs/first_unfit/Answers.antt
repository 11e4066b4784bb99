-- What the search leaves of `first_unfit`.
use mathlib.Core.Path.{◌≡◌, sym, ◌∙◌}
use native.Mathlib.Omega.{arith}
use borrow.Author.Rules.{rules}
use borrow.Author.Tests.{lt-ltb, le-ltb}
use Rattle.rules.specs.Distance.{nodes_apart}
use Rattle.rules.specs.Refusals.{first_unfit, decision_of, code_of}
use Rattle.rules.proofs.Loops.{first-begun, first_turn, first-here, first-end}
use Rattle.metrics.proofs.Pairs.{refuses, passes}
use Rattle.metrics.proofs.first_unfit.Invariants.{test}
use Rattle.metrics.proofs.first_unfit.Goals as goal

pub loop-v-init : goal.loop-v-init
unfolding first_unfit
loop-v-init c = (search rules, first-begun _ c.args.n 0)

pub returns-in-Some : goal.returns-in-Some
unfolding decision_of code_of
returns-in-Some c =
    let n = c.args.n in
    let found = c.in-Some.ensures in
    let here = test c.args.lanes.now c.args.dimension n in
    let f = first-here here n c.loop-v.v (omega arith) (lt-ltb _ _ found.1) in
    sym (refuses _ n c.loop-v.v c.in-Some.j.0 (omega arith) (sym c.loop-v.invariant.1 ∙ f) (sym found.0))

pub loop-v-preserved : goal.loop-v-preserved
loop-v-preserved c =
    (omega arith, first_turn _ c.args.n c.loop-v.v (omega arith) (le-ltb _ _ c.in_default.ensures) ∙ c.loop-v.invariant.1)

pub returns : goal.returns
unfolding decision_of
returns c =
    let n = c.args.n in
    let f = first-end (test c.args.lanes.now c.args.dimension n) n c.loop-v.v (omega arith) in
    let e : first_unfit (nodes_apart c.args.lanes.now c.args.dimension) n ≡ c.loop-v.v = sym c.loop-v.invariant.1 ∙ f in
    sym (passes _ n (omega arith))
