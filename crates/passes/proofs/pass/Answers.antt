-- What the search leaves of `passes::pass`.
use mathlib.Core.Path.{◌≡◌, ap, ◌∙◌}
use Prim.Native.Nat.{ℕ}
use native.Mathlib.Omega.{arith}
use lib.ListN.{length, get_or, drop, length-drop}
use Rattle.passes.specs.Passes.{row_pairs, first_of, pass_pairs}
use Rattle.passes.proofs.Laws.{doing_none, doing_more, doing_pairs, does_part}
use Rattle.lists.proofs.Plain.{to_end}
use Rattle.passes.proofs.pass.Goals.{Start}
use Rattle.passes.proofs.pass.Goals as goal

pub loop-i-init : goal.loop-i-init
loop-i-init c = doing_none _ _ 64 _ _ _ _

pub loop-i-preserved : goal.loop-i-preserved
loop-i-preserved c =
    let vs = c.args.vs.now in
    let i = c.loop-i.i in
    let below = c.loop-i-test.true in
    let from = c.first-from.ensures in
    let few = c.requires.2.few in
    let m = length-drop (first_of c.args.behind c.args.rising i) vs in
    doing_more _ _ 64 _ c.loop-i.invariant (does_part _ (row_pairs c.args.rising (get_or c.args.us.now i 0)) (to_end _ vs ∙ ap (λ (j : ℕ). drop j vs) from) c.meet_row-total.ensures) (omega arith)

pub returns : goal.returns
unfolding pass_pairs
returns c =
    let i = c.loop-i.i in
    let past = c.loop-i-test.false in
    let few = c.requires.1.few in
    let e : i ≡ length c.args.us.now = omega arith in
    doing_pairs 64 _ _ i c.loop-i.invariant (rw e) (omega arith)
