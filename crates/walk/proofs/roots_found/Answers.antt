-- What the search leaves of `walk::roots_found`.
use mathlib.Core.Path.{refl}
use Rattle.std.proofs.lemmas.Result.{err_from_is_err_and}
use native.Mathlib.Omega.{arith}
use Rattle.expand.proofs.Areas.{room-kept}
use Rattle.expand.proofs.Near.{query-answers}
use Rattle.walk.proofs.Rooted.{rooting_none, rooting_unfit, rooting_more, rooting_end}
use borrow.Author.Rules.{rules}
use Rattle.walk.proofs.roots_found.Goals as goal

pub loop-v-init : goal.loop-v-init
loop-v-init c = rooting_none _ _ _ _ _ _

pub bound-far-requires : goal.bound-far-requires
bound-far-requires c =
    let inv = c.loop-v.invariant in
    let few = inv.few in
    let roots = c.requires.roots.few in
    let room = c.requires.room.floats in
    let long = inv.floats in
    (c.requires.few, omega arith, c.requires.le_k, search rules)

pub work_out-requires : goal.work_out-requires
work_out-requires c =
    let inv = c.loop-v.invariant in
    let roots = c.requires.roots in
    let few = roots.few in
    let found = inv.few in
    record { few = c.requires.few; room = room-kept c.requires.room inv.words inv.floats; v_lt_n = (roots.below _ (search rules), search rules) }

pub returns-in_err-len : goal.returns-in_err-len
returns-in_err-len c =
    let p = err_from_is_err_and c.from_residual.result c.from_residual.ensures.1 in
    rw (p.1, p.2) (rooting_unfit c.loop-v.invariant (search rules) refl c.in_err-len.ensures)

pub loop-v-preserved : goal.loop-v-preserved
loop-v-preserved c =
    let inv = c.loop-v.invariant in
    let few = inv.few in
    let roots = c.requires.roots.few in
    rooting_more inv (room-kept c.requires.room inv.words inv.floats) (query-answers _ _ _) c.requires.le_k (search rules) (search rules) c.bound-far.ensures
    c.in_ok-len.was c.work_out.ensures

pub returns : goal.returns
returns c = rooting_end c.loop-v.invariant (search rules)
