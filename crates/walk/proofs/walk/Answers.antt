-- `walk::walk` meets its contract: the start, and what is left. Assumes nothing.
use Rattle.std.proofs.lemmas.Result.{err_from_is_err_and}
use mathlib.Core.Path.{◌∙◌, refl}
use native.Mathlib.Omega.{arith}
use Rattle.expand.proofs.Areas.{room-kept}
use Rattle.walk.proofs.Walking.{started-count, walked_unfit, walked}
use Rattle.walk.proofs.walk.Goals as goal

pub start-requires : goal.start-requires
start-requires c = record { few = c.requires.few; room = c.requires.room; roots = c.requires.roots; le_k = c.requires.le_k }

pub shape_of-words-in_err-m : goal.shape_of-words-in_err-m
shape_of-words-in_err-m c = c.start.ensures.words

pub shape_of-floats-in_err-m : goal.shape_of-floats-in_err-m
shape_of-floats-in_err-m c = c.start.ensures.floats

pub returns-in_err-m : goal.returns-in_err-m
returns-in_err-m c =
    let p = err_from_is_err_and c.from_residual.result c.from_residual.ensures.1 in
    rw (p.1, p.2) (walked_unfit _ _ _ _ _ refl c.in_err-m.ensures)

pub go_on-requires : goal.go_on-requires
go_on-requires c =
    let p = c.requires in
    let s = started-count c.in_ok-m.was c.start.ensures in
    let roots = p.roots in
    let some = roots.some in
    let few = roots.few in
    let k = p.le_k in
    let least = s.1 in
    record { few = p.few; rows = p.rows; room = room-kept p.room c.start.ensures.words c.start.ensures.floats; queue_sound = s.0; best_sound = s.2; le_m = (omega arith, omega arith) }

pub shape_of-words : goal.shape_of-words
shape_of-words c = (c.go_on.ensures 0).words ∙ c.start.ensures.words

pub shape_of-floats : goal.shape_of-floats
shape_of-floats c = (c.go_on.ensures 0).floats ∙ c.start.ensures.floats

pub returns : goal.returns
returns c = walked _ _ _ _ _ (rw c.in_ok-m.was at c.start.ensures) c.go_on.ensures
