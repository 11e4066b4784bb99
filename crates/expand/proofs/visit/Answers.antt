-- `expand::visit` meets its contract. Assumes nothing.
use Rattle.expand.proofs.Areas.{room-kept}
use mathlib.Core.Path.{refl, ◌∙◌}
use lib.ListN.{length-set}
use Rattle.expand.proofs.Steps.{visited-before, visited_now}
use Rattle.expand.proofs.visit.Goals as goal

pub returns-then-words-at-eq1 : goal.returns-then-words-at-eq1
returns-then-words-at-eq1 c =
    visited-before _ _ _ _ _ _ _ c.requires.v_lt_n.0 c.if-words-at-eq1.true

pub work_out-requires : goal.work_out-requires
work_out-requires c =
    record { few = c.requires.few; room = room-kept c.requires.room (simp length-set) refl; v_lt_n = c.requires.v_lt_n }

pub shape_of-words : goal.shape_of-words
shape_of-words c =
    c.work_out.ensures.kept.words ∙ simp length-set

pub returns : goal.returns
returns c =
    visited_now _ _ _ _ _ _ _ c.requires.v_lt_n.0 _ c.if-words-at-eq1.false c.work_out.ensures
