-- What the search leaves of `expand::take_these`.
use Rattle.expand.proofs.Areas.{room-kept}
use Rattle.expand.proofs.Steps.{taking_none, taking_stop, taking-more, taking-end}
use borrow.Author.Rules.{rules}
use Rattle.expand.proofs.take_these.Goals as goal

pub loop-i-init : goal.loop-i-init
loop-i-init c = taking_none _ _ _ _ _ _

pub returns-then-e-floats : goal.returns-then-e-floats
returns-then-e-floats c =
    let pre = c.requires in
    taking_stop pre.room pre.le_m.1 pre.le_m.0 pre.le_m.2 c.loop-i.invariant (search rules) c.if-e-floats.true

pub join-end-requires : goal.join-end-requires
join-end-requires c =
    let pre = c.requires in
    let inv = c.loop-i.invariant in
    let most = inv.most in
    let fits = pre.le_m.3 in
    record { room = room-kept pre.room inv.kept.words inv.kept.floats; le_m = (pre.le_m.0, pre.le_m.1, search rules) }

pub loop-i-preserved : goal.loop-i-preserved
loop-i-preserved c =
    let pre = c.requires in
    taking-more pre.room pre.le_m.1 pre.le_m.0 pre.le_m.2 c.loop-i.invariant (search rules) c.if-e-floats.false c.join-end.ensures

pub returns : goal.returns
returns c =
    let pre = c.requires in
    taking-end pre.room pre.le_m.1 pre.le_m.0 pre.le_m.2 c.loop-i.invariant (search rules)
