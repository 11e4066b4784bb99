-- What the search leaves of `unfit_after`.
use mathlib.Core.Path.{◌≡◌, sym, ◌∙◌, ap}
use mathlib.Core.Bool.{Bool, true, false}
use native.Mathlib.Omega.{arith}
use native.Mathlib.Numerals.{add-one}
use Rattle.rules.specs.Distance.{unfit}
use Rattle.rules.specs.Refusals.{unfit_after}
use Rattle.metrics.proofs.Steps.{room, unfit_none}
use Rattle.rules.proofs.Loops.{first_turn, first-here, first-end}
use Rattle.metrics.proofs.unfit_after.Invariants.{test}
use Rattle.metrics.proofs.unfit_after.Goals.{After-is_none}
use Rattle.metrics.proofs.unfit_after.Goals as goal

-- what the test says of the place
tested : (c : After-is_none) (b : Bool) → c.is_none.result ≡ b
    → let args = c.args in test args.lanes.now args.dimension args.i.0 c.loop-v.v ≡ b
tested c b e = ap unfit (sym c.node_distance.ensures) ∙ unfit_none _ _ c.is_none.ensures ∙ e

pub loop-v-init : goal.loop-v-init
unfolding unfit_after
loop-v-init c = (omega arith, rw add-one)

pub node_distance-requires : goal.node_distance-requires
node_distance-requires c =
    (room _ _ _ _ c.requires.0 (omega arith), room _ _ _ _ c.requires.0 (omega arith))

pub returns-then-is_none : goal.returns-then-is_none
returns-then-is_none c =
    let f = first-here _ c.args.n c.loop-v.v (omega arith) (tested (goal.at.returns-then-is_none c).After-is_none true c.if-is_none.true) in
    let e : c.loop-v.v ≡ unfit_after _ c.args.n c.args.i.0 = sym f ∙ c.loop-v.invariant.1 in
    (e, omega arith)

pub loop-v-preserved : goal.loop-v-preserved
loop-v-preserved c =
    (omega arith, first_turn _ c.args.n c.loop-v.v (omega arith) (tested (goal.at.loop-v-preserved c).After-is_none false c.if-is_none.false) ∙ c.loop-v.invariant.1)

pub returns : goal.returns
returns c =
    let f = first-end _ c.args.n c.loop-v.v (omega arith) in
    let e : c.loop-v.v ≡ unfit_after _ c.args.n c.args.i.0 = sym f ∙ c.loop-v.invariant.1 in
    omega arith
