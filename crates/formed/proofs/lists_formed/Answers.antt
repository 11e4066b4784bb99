-- What the search leaves of `formed::lists_formed`.
use mathlib.Core.Path.{◌≡◌, sym, ◌∙◌}
use Prim.Native.Nat.{◌+◌, ◌-◌, ◌*◌}
use native.Mathlib.Omega.{arith}
use Rattle.formed.proofs.Laws.{lists_none, formed-part-not, formed-part_turn, formed-part-end}
use Rattle.formed.proofs.lists_formed.Goals.{In-loop-w}
use Rattle.formed.proofs.lists_formed.Goals as goal

pub loop-w-init : goal.loop-w-init
loop-w-init c = lists_none _ _

pub returns-then-not-list_formed : goal.returns-then-not-list_formed
returns-then-not-list_formed c =
    let q = c.loop-w.w in
    let k = c.args.k in
    let e : q * k + k - q * k ≡ k = omega arith in
    formed-part-not _ _ _ _ q _ e c.loop-w-test.true (sym c.list_formed.ensures ∙ c.if-not-list_formed.true)

pub loop-w-preserved : goal.loop-w-preserved
loop-w-preserved c =
    let q = c.loop-w.w in
    let k = c.args.k in
    let e : q * k + k - q * k ≡ k = omega arith in
    formed-part_turn _ _ _ _ q _ e c.loop-w.invariant (sym c.list_formed.ensures ∙ c.if-not-list_formed.false)

pub returns : goal.returns
returns c = formed-part-end _ _ _ _ _ (omega arith) c.loop-w-test.false c.loop-w.invariant
