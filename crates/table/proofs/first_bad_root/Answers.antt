-- What the search leaves of `table::first_bad_root`.
use mathlib.Core.Path.{◌≡◌, sym, ◌∙◌}
use mathlib.Core.Bool.{true}
use native.Mathlib.Omega.{arith}
use Rattle.rules.specs.Refusals.{bad_root, first_bad_root}
use Rattle.rules.proofs.Loops.{first-begun, first-here, first_turn, first-end}
use Rattle.table.proofs.Laws.{bad_high, bad_is}
use Rattle.table.proofs.first_bad_root.Goals as goal
use Rattle.table.proofs.first_bad_root.Goals.{then-n-v-via-then-n-v, then-n-v-via-else-n-v+then-has}

pub loop-i-init : goal.loop-i-init
unfolding first_bad_root
loop-i-init c = first-begun (bad_root _ _) _ 0

pub returns-then-n-v : goal.returns-then-n-v
returns-then-n-v c =
    let i = c.loop-i.i in
    let bad : bad_root c.args.n c.args.roots.now i ≡ true = elim c.then-n-v.branch [
      | then-n-v-via-then-n-v w ↦ bad_high _ _ i w.if-n-v.true
      | then-n-v-via-else-n-v+then-has w ↦ bad_is _ _ i w.if-n-v.false ∙ sym w.has.ensures ∙ w.if-has.true
    ] in
    let first = sym c.loop-i.invariant ∙ first-here (bad_root _ _) _ i (omega arith) bad in
    (omega arith, sym first)

pub loop-i-preserved : goal.loop-i-preserved
loop-i-preserved c =
    first_turn (bad_root _ _) _ c.loop-i.i (omega arith) (bad_is _ _ c.loop-i.i c.if-n-v.false ∙ sym c.has.ensures ∙ c.if-has.false) ∙ c.loop-i.invariant

pub returns : goal.returns
returns c = let last = sym c.loop-i.invariant ∙ first-end (bad_root _ _) _ c.loop-i.i (omega arith) in omega arith
