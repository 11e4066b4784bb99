-- `expand::expand` meets its contract. Assumes nothing.
use mathlib.Core.Path.{◌∙◌, refl}
use Prim.Native.Nat.{◌+◌, ◌-◌}
use Rattle.std.proofs.lemmas.Result.{err_from_is_err_and}
use native.Mathlib.Omega.{arith}
use lib.ListN.{get_or}
use lib.Ieee.{nan}
use Rattle.expand.proofs.Areas.{room-kept}
use Rattle.expand.proofs.Near.{query-answers}
use Rattle.expand.proofs.Expanding.{Next, next, row_is, row-short, found-sound, Best, best_of, expanded, expanded_unfit}
use Rattle.expand.proofs.expand.Goals.{Start}
use Rattle.expand.proofs.expand.Goals as goal

-- the node that is taken
top : (start : Start) → Next start.args.asked.counters.n start.args.graph.now start.args.index_size start.args.takings start.args.tail start.args.words.now
top start = next start.requires.room start.requires.queue_sound start.requires.rows start.requires.few start.requires.le_m.2

-- the best set, and how far its last is
best : (start : Start) → Best start.args.asked.counters.n start.args.words.now start.args.floats.now start.args.m (get_or start.args.floats.now (start.args.asked.counters.n + start.args.asked.counters.n + start.args.m - 1) nan)
best start = best_of start.requires.room start.requires.le_m.0 start.requires.le_m.1 start.requires.best_sound

pub overflow_add-at : goal.overflow_add-at
overflow_add-at c = let b = top (goal.at.overflow_add-at c).Start in omega arith

pub offset_bounds-words-at : goal.offset_bounds-words-at
offset_bounds-words-at c = let b = top (goal.at.offset_bounds-words-at c).Start in omega arith

pub bounds-words-at : goal.bounds-words-at
bounds-words-at c = let b = top (goal.at.bounds-words-at c).Start in omega arith

pub overflow_cast-q : goal.overflow_cast-q
overflow_cast-q c = omega (arith, c.type_inv.words (c.args.asked.counters.n + c.args.takings))

pub overflow_mul-from : goal.overflow_mul-from
overflow_mul-from c = let b = top (goal.at.overflow_mul-from c).Start in omega arith

pub overflow_add-to : goal.overflow_add-to
overflow_add-to c = let b = top (goal.at.overflow_add-to c).Start in omega arith

pub overflow_add-last : goal.overflow_add-last
overflow_add-last c = let b = top (goal.at.overflow_add-last c).Start in omega arith

pub overflow_add-last-2 : goal.overflow_add-last-2
overflow_add-last-2 c = let b = top (goal.at.overflow_add-last-2 c).Start in let few = c.requires.le_m.1 in omega arith

pub overflow_sub-last : goal.overflow_sub-last
overflow_sub-last c = let b = top (goal.at.overflow_sub-last c).Start in let some = c.requires.le_m.0 in omega arith

pub offset_bounds-floats-last : goal.offset_bounds-floats-last
offset_bounds-floats-last c = let b = top (goal.at.offset_bounds-floats-last c).Start in let few = c.requires.le_m.1 in omega arith

pub bounds-floats-last : goal.bounds-floats-last
bounds-floats-last c =
    let pre = c.requires in
    let few = pre.le_m.1 in
    let some = pre.le_m.0 in
    let floats = pre.room.floats in
    omega arith

pub offset_bounds-graph-from : goal.offset_bounds-graph-from
offset_bounds-graph-from c = let b = top (goal.at.offset_bounds-graph-from c).Start in omega arith

pub slice_bounds-visit_row-count : goal.slice_bounds-visit_row-count
slice_bounds-visit_row-count c = let b = top (goal.at.slice_bounds-visit_row-count c).Start in omega arith

pub slice_bounds-visit_row-start : goal.slice_bounds-visit_row-start
slice_bounds-visit_row-start c = let b = top (goal.at.slice_bounds-visit_row-start c).Start in omega arith

pub slice_bounds-visit_row-end : goal.slice_bounds-visit_row-end
slice_bounds-visit_row-end c = let b = top (goal.at.slice_bounds-visit_row-end c).Start in omega arith

pub visit_row-requires : goal.visit_row-requires
visit_row-requires c =
    record { few = c.requires.few; room = c.requires.room; row_len_bound = row-short _ _ _ c.requires.rows.narrow }

pub shape_of-words-in_err-len : goal.shape_of-words-in_err-len
shape_of-words-in_err-len c = c.visit_row.ensures.kept.words

pub shape_of-floats-in_err-len : goal.shape_of-floats-in_err-len
shape_of-floats-in_err-len c = c.visit_row.ensures.kept.floats

pub returns-in_err-len : goal.returns-in_err-len
returns-in_err-len c =
    let p = err_from_is_err_and c.from_residual.result c.from_residual.ensures.1 in
    rw (p.1, p.2) (expanded_unfit _ _ _ _ _ _ _ _ _ (top (goal.at.returns-in_err-len c).Start) (query-answers _ _ _) (best (goal.at.returns-in_err-len c).Start).held (row_is _ _ _) refl c.in_err-len.ensures)

pub take_these-end-requires : goal.take_these-end-requires
take_these-end-requires c =
    let v = c.visit_row.ensures in
    let fine = found-sound (best (goal.at.take_these-end-requires c).Start).held (query-answers _ _ _) _ c.requires.room c.requires.queue_sound.few (rw c.in_ok-len.was at v) in
    let p = c.requires.le_m in
    record { room = room-kept c.requires.room v.kept.words v.kept.floats; le_m = (p.0, p.1, fine.short, fine.most) }

pub shape_of-words : goal.shape_of-words
shape_of-words c = c.take_these-end.ensures.kept.words ∙ c.visit_row.ensures.kept.words

pub shape_of-floats : goal.shape_of-floats
shape_of-floats c = c.take_these-end.ensures.kept.floats ∙ c.visit_row.ensures.kept.floats

pub returns : goal.returns
returns c =
    expanded _ _ _ _ _ _ _ _ _ (top (goal.at.returns c).Start) (query-answers _ _ _) (best (goal.at.returns c).Start) c.requires.room c.requires.queue_sound (row_is _ _ _)
    (rw c.in_ok-len.was at c.visit_row.ensures) c.take_these-end.ensures
