-- What the search leaves of `hops::own_members`.
use mathlib.Core.Path.{refl, ap, ◌∙◌}
use native.Mathlib.Omega.{arith}
use lib.ListN.{length}
use Rattle.hops.proofs.Laws.{took_as, walked_turn, walked_end, length-list, member_in}
use Rattle.hops.proofs.own_members.Goals as goal

pub take_node-taken-requires : goal.take_node-taken-requires
take_node-taken-requires c =
    let pre = c.requires.linked in
    let held = c.loop-v.invariant.held in
    let u = held.flags_long in
    let v = held.out_long in
    let within = held.within in
    let long = ap length c.list_of-v-items.ensures ∙ length-list pre.0 _ pre.1 in
    let below = member_in pre.0 _ pre.1 c.list_of-v-items.ensures c.loop-v.v-index (omega arith) in
    (held.flagged, omega arith, omega arith)

pub loop-v-preserved : goal.loop-v-preserved
loop-v-preserved c =
    let before = c.loop-v.invariant.held.within in
    let within = c.take_node-taken.ensures.within in
    walked_turn c.loop-v.invariant (omega arith) refl (omega arith) c.take_node-taken.ensures

pub returns : goal.returns
returns c =
    let pre = c.requires.linked in
    let long = ap length c.list_of-v-items.ensures ∙ length-list pre.0 _ pre.1 in
    let within = c.loop-v.invariant.held.within in
    rw (← c.list_of-v-items.ensures) (took_as refl (omega arith) (walked_end c.loop-v.invariant (omega arith)))
