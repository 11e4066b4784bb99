-- `relay_close::judge` meets its contract: each row in turn. Assumes nothing.
use mathlib.Core.Path.{refl, sym, ◌∙◌}
use Prim.Native.Nat.{ℕ}
use native.Mathlib.Omega.{arith}
use lib.Dec.{T}
use lib.Ieee.{Float, nan, binary32, fits}
use Rattle.rules.specs.Refusals.{decision_of, code_of}
use Rattle.rules.proofs.Tables.{within}
use Rattle.lists.proofs.Plain.{all_of}
use Rattle.encoded.specs.Words.{Binary32}
use Rattle.relay_state.specs.State.{Sized}
use Rattle.relay_state.proofs.Parts.{sizes}
use Rattle.relay_move.proofs.Table.{few-jobs}
use Rattle.relay_close.proofs.Table.{sized, by_nodes, by_k, by_lengths, by_state, by_step, by_none}
use Rattle.relay_close.proofs.judge.Goals.{After-shared_slice_known-2-1, Else-wrong_buffers}
use Rattle.relay_close.proofs.judge.Goals as goal

-- what an f32 slice holds are values of binary32
values : (c : After-shared_slice_known-2-1) → Binary32 c.args.floats.now
values c = all_of (λ (x : Float). T (fits binary32 x)) c.args.floats.now nan (λ (i : ℕ) h. c.type_inv.floats i)

-- once row 6 has passed
fits-at : (c : Else-wrong_buffers) → Sized c.args.n c.args.k c.args.words.now c.args.floats.now
fits-at c = let a = c.args in sized a.n a.k a.words.now a.floats.now a.nodes.now a.distances.now a.reports.now (sym c.outside.ensures ∙ c.if-outside.false) (sym c.outside-2.ensures ∙ c.if-outside-2.false) (sym c.wrong_buffers.ensures ∙ c.if-wrong_buffers.false)

pub returns-then-outside : goal.returns-then-outside
unfolding decision_of code_of
returns-then-outside c =
    let a = c.args in
    by_nodes a.n a.k a.words.now a.floats.now a.nodes.now a.distances.now a.reports.now (sym c.outside.ensures ∙ c.if-outside.true)

pub returns-then-outside-2 : goal.returns-then-outside-2
unfolding decision_of code_of
returns-then-outside-2 c =
    let a = c.args in
    by_k a.n a.k a.words.now a.floats.now a.nodes.now a.distances.now a.reports.now (sym c.outside.ensures ∙ c.if-outside.false) (sym c.outside-2.ensures ∙ c.if-outside-2.true)

pub wrong_buffers-requires : goal.wrong_buffers-requires
wrong_buffers-requires c = ((within 2 1024 _ (sym c.outside.ensures ∙ c.if-outside.false)).to, (within 1 64 _ (sym c.outside-2.ensures ∙ c.if-outside-2.false)).to)

pub returns-then-wrong_buffers : goal.returns-then-wrong_buffers
unfolding decision_of code_of
returns-then-wrong_buffers c =
    let a = c.args in
    by_lengths a.n a.k a.words.now a.floats.now a.nodes.now a.distances.now a.reports.now (sym c.outside.ensures ∙ c.if-outside.false) (sym c.outside-2.ensures ∙ c.if-outside-2.false) (sym c.wrong_buffers.ensures ∙ c.if-wrong_buffers.true)

pub relay_formed-requires : goal.relay_formed-requires
relay_formed-requires c = fits-at c

pub returns-then-not-relay_formed : goal.returns-then-not-relay_formed
unfolding decision_of code_of
returns-then-not-relay_formed c =
    let a = c.args in
    by_state a.n a.k a.words.now a.floats.now a.nodes.now a.distances.now a.reports.now (sym c.outside.ensures ∙ c.if-outside.false) (sym c.outside-2.ensures ∙ c.if-outside-2.false) (sym c.wrong_buffers.ensures ∙ c.if-wrong_buffers.false) (sym c.relay_formed.ensures ∙ c.if-not-relay_formed.true)

pub overflow_add-count : goal.overflow_add-count
overflow_add-count c = let s = sizes (fits-at (goal.at.overflow_add-count c).Else-wrong_buffers) in omega arith

pub overflow_mul-count : goal.overflow_mul-count
overflow_mul-count c = let s = sizes (fits-at (goal.at.overflow_mul-count c).Else-wrong_buffers) in omega arith

pub overflow_add-count-2 : goal.overflow_add-count-2
overflow_add-count-2 c = let s = sizes (fits-at (goal.at.overflow_add-count-2 c).Else-wrong_buffers) in omega arith

pub offset_bounds-words-n : goal.offset_bounds-words-n
offset_bounds-words-n c = let s = sizes (fits-at (goal.at.offset_bounds-words-n c).Else-wrong_buffers) in omega arith

pub bounds-words-n : goal.bounds-words-n
bounds-words-n c = let s = sizes (fits-at (goal.at.bounds-words-n c).Else-wrong_buffers) in let all = s.all_words in omega arith

pub lowest_unfinished-requires : goal.lowest_unfinished-requires
lowest_unfinished-requires c =
    let z = fits-at (goal.at.lowest_unfinished-requires c).Else-wrong_buffers in
    (z.nodes, z.few, z.words, few-jobs z (values (goal.at.lowest_unfinished-requires c).After-shared_slice_known-2-1) (sym c.relay_formed.ensures ∙ c.if-not-relay_formed.false) 0)

pub returns-in-Some : goal.returns-in-Some
unfolding decision_of code_of
returns-in-Some c =
    let a = c.args in
    let found = c.in-Some.ensures in
    by_step a.n a.k a.words.now a.floats.now a.nodes.now a.distances.now a.reports.now (sym c.outside.ensures ∙ c.if-outside.false) (sym c.outside-2.ensures ∙ c.if-outside-2.false) (sym c.wrong_buffers.ensures ∙ c.if-wrong_buffers.false) (values (goal.at.returns-in-Some c).After-shared_slice_known-2-1) (sym c.relay_formed.ensures ∙ c.if-not-relay_formed.false) _ found.1 (omega arith)

pub returns : goal.returns
unfolding decision_of code_of
returns c =
    let a = c.args in
    by_none a.n a.k a.words.now a.floats.now a.nodes.now a.distances.now a.reports.now (sym c.outside.ensures ∙ c.if-outside.false) (sym c.outside-2.ensures ∙ c.if-outside-2.false) (sym c.wrong_buffers.ensures ∙ c.if-wrong_buffers.false) (values (goal.at.returns c).After-shared_slice_known-2-1) (sym c.relay_formed.ensures ∙ c.if-not-relay_formed.false) _ refl (omega (arith, c.in_default.ensures))
