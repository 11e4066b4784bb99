-- What the search leaves of `unvisits::unvisit_all`.
use mathlib.Core.Path.{◌∙◌}
use Prim.Native.Nat.{◌*◌}
use Rattle.passes.proofs.Contexts.{members_cut}
use Rattle.unvisits.proofs.Laws.{each_none, each_more}
use Rattle.unvisits.proofs.unvisit_all.Goals.{Start}
use Rattle.unvisits.proofs.unvisit_all.Goals as goal

pub loop-i-init : goal.loop-i-init
loop-i-init c = each_none _ _ _ _

pub unvisit_row-requires : goal.unvisit_row-requires
unvisit_row-requires c =
    let p = c.requires in
    let i = c.loop-i.i in
    let xs = c.args.contexts.now in
    let below = c.loop-i-test.true in
    let m = members_cut xs (260 * i) (p.2.each i below) in
    (p.0, below, c.loop-i.invariant.long ∙ p.1, m.short.below)

pub loop-i-preserved : goal.loop-i-preserved
loop-i-preserved c =
    let p = c.requires in
    let i = c.loop-i.i in
    let xs = c.args.contexts.now in
    let below = c.loop-i-test.true in
    let m = members_cut xs (260 * i) (p.2.each i below) in
    each_more _ _ xs i c.loop-i.invariant m.list c.unvisit_row.ensures
