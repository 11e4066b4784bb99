-- What the search leaves of `expand::visit_row`.
use native.Mathlib.Omega.{arith}
use Rattle.expand.proofs.Areas.{room-kept}
use Rattle.expand.proofs.Steps.{visiting_none, visiting_end, visiting_stop, visiting_more, visiting_unfit}
use mathlib.Core.Path.{refl}
use Rattle.std.proofs.lemmas.Result.{err_from_is_err_and}
use borrow.Author.Rules.{rules}
use Rattle.expand.proofs.visit_row.Goals as goal

pub loop-v-init : goal.loop-v-init
loop-v-init c = visiting_none _ _ _ _ _ _

pub overflow_cast-v : goal.overflow_cast-v
overflow_cast-v c = omega (arith, c.type_inv.row c.loop-v.v-index)

pub returns-then-n-v : goal.returns-then-n-v
returns-then-n-v c =
    visiting_stop c.loop-v.invariant (search rules) c.requires.row_len_bound c.if-n-v.true

pub visit-requires : goal.visit-requires
visit-requires c =
    let inv = c.loop-v.invariant in
    let few = inv.few in
    let short = c.requires.row_len_bound in
    record { few = c.requires.few; room = room-kept c.requires.room inv.kept.words inv.kept.floats; v_lt_n = (c.if-n-v.false, search rules) }

pub returns-in_err-len : goal.returns-in_err-len
returns-in_err-len c =
    let p = err_from_is_err_and c.from_residual.result c.from_residual.ensures.1 in
    rw (p.1, p.2) (visiting_unfit c.loop-v.invariant (search rules) c.if-n-v.false refl c.in_err-len.ensures)

pub loop-v-preserved : goal.loop-v-preserved
loop-v-preserved c =
    visiting_more c.loop-v.invariant (search rules) c.if-n-v.false c.in_ok-len.was c.visit.ensures

pub returns : goal.returns
returns c =
    visiting_end c.loop-v.invariant (search rules) c.requires.row_len_bound
