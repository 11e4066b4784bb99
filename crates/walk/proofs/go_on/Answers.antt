-- What the search leaves of `walk::go_on`.
use Rattle.std.proofs.lemmas.Result.{err_from_is_err_and}
use mathlib.Core.Path.{◌∙◌, refl}
use native.Mathlib.Omega.{arith}
use Rattle.expand.proofs.Areas.{room-kept}
use Rattle.walk.proofs.Walking.{walking_none, tail_short, walking_more, walking_unfit, walking_end}
use borrow.Author.Rules.{rules}
use Rattle.walk.proofs.go_on.Goals as goal

pub loop-takings-init : goal.loop-takings-init
loop-takings-init c = walking_none _ _ _ _ _ _ c.requires.queue_sound c.requires.best_sound

pub expand-requires : goal.expand-requires
expand-requires c =
    let inv = c.loop-takings.invariant in
    let p = c.requires in
    record { few = p.few; rows = p.rows; room = room-kept p.room inv.words inv.floats; queue_sound = inv.sound; best_sound = inv.best; le_m = (p.le_m.0, p.le_m.1, search rules) }

pub shape_of-words-in_err-tail : goal.shape_of-words-in_err-tail
shape_of-words-in_err-tail c = c.expand.ensures.words ∙ c.loop-takings.invariant.words

pub shape_of-floats-in_err-tail : goal.shape_of-floats-in_err-tail
shape_of-floats-in_err-tail c = c.expand.ensures.floats ∙ c.loop-takings.invariant.floats

pub returns-in_err-tail : goal.returns-in_err-tail
returns-in_err-tail c =
    let p = err_from_is_err_and c.from_residual.result c.from_residual.ensures.1 in
    rw (p.1, p.2) (walking_unfit _ _ c.requires.room c.loop-takings.invariant c.loop-takings-test.true refl c.in_err-tail.ensures)

pub overflow_add-takings : goal.overflow_add-takings
overflow_add-takings c =
    let short = tail_short _ _ c.requires.room c.loop-takings.invariant in
    let few = c.requires.few in
    omega arith

pub loop-takings-smaller : goal.loop-takings-smaller
loop-takings-smaller c =
    let short = tail_short _ _ c.requires.room c.loop-takings.invariant in
    let going = c.loop-takings-test.true in
    omega arith

pub loop-takings-preserved : goal.loop-takings-preserved
loop-takings-preserved c =
    walking_more _ _ c.requires.room c.loop-takings.invariant c.loop-takings-test.true c.in_ok-tail.was c.expand.ensures

pub shape_of-words : goal.shape_of-words
shape_of-words c = c.loop-takings.invariant.words

pub shape_of-floats : goal.shape_of-floats
shape_of-floats c = c.loop-takings.invariant.floats

pub returns : goal.returns
returns c =
    walking_end _ _ c.requires.room c.loop-takings.invariant (search rules)
