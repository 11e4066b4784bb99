-- `walk::start` meets its contract. Assumes nothing.
use Rattle.std.proofs.lemmas.Result.{err_from_is_err_and}
use mathlib.Core.Path.{◌∙◌, refl}
use native.Mathlib.Omega.{arith}
use Rattle.expand.proofs.Areas.{room-kept}
use Rattle.walk.proofs.Marks.{roots-fit}
use Rattle.walk.proofs.Walking.{counted-few, started_in, started-unfit}
use Rattle.walk.proofs.start.Goals as goal

pub roots_found-requires : goal.roots_found-requires
roots_found-requires c = record { few = c.requires.few; room = c.requires.room; roots = c.requires.roots; le_k = c.requires.le_k }

pub shape_of-words-in_err-count : goal.shape_of-words-in_err-count
shape_of-words-in_err-count c = c.roots_found.ensures.words

pub shape_of-floats-in_err-count : goal.shape_of-floats-in_err-count
shape_of-floats-in_err-count c = c.roots_found.ensures.floats

pub returns-in_err-count : goal.returns-in_err-count
returns-in_err-count c =
    let p = err_from_is_err_and c.from_residual.result c.from_residual.ensures.1 in
    rw (p.1, p.2) (started-unfit refl c.in_err-count.ensures)

pub mark_all-requires : goal.mark_all-requires
mark_all-requires c =
    let room = c.requires.room.words in
    let long = c.roots_found.ensures.words in
    record { roots = c.requires.roots; n_in_bounds = omega arith }

pub enter-requires : goal.enter-requires
enter-requires c =
    let marked = c.mark_all.ensures in
    let roots = c.requires.roots in
    let few = roots.few in
    let fit = roots-fit _ _ roots in
    let count = counted-few c.in_ok-count.was c.roots_found.ensures in
    let least = c.fewer-m.ensures in
    record { room = room-kept c.requires.room (marked.words ∙ c.roots_found.ensures.words) c.roots_found.ensures.floats; m_bound = (omega arith, omega arith) }

pub shape_of-words : goal.shape_of-words
shape_of-words c = c.enter.ensures.kept.words ∙ c.mark_all.ensures.words ∙ c.roots_found.ensures.words

pub shape_of-floats : goal.shape_of-floats
shape_of-floats c = c.enter.ensures.kept.floats ∙ c.roots_found.ensures.floats

pub returns : goal.returns
returns c =
    started_in c.requires.roots (rw c.in_ok-count.was at c.roots_found.ensures) c.mark_all.ensures c.fewer-m.ensures c.enter.ensures c.requires.room
