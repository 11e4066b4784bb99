-- `relay_move::judge` meets its contract: each row in turn. Assumes nothing.
use mathlib.Core.Path.{sym, ◌∙◌}
use Prim.Native.Nat.{ℕ}
use lib.Dec.{T}
use lib.Ieee.{Float, nan, binary32, fits}
use Rattle.rules.specs.Refusals.{decision_of, code_of}
use Rattle.rules.proofs.Tables.{within}
use Rattle.lists.proofs.Plain.{all_of}
use Rattle.encoded.specs.Words.{Binary32}
use Rattle.relay_move.proofs.Table.{few-jobs, sized, by_nodes, by_k, by_lengths, by_state, by_step, by_none}
use Rattle.relay_move.proofs.judge.Goals.{After-shared_slice_known-2-1}
use Rattle.relay_move.proofs.judge.Goals as goal

-- what an f32 slice holds are values of binary32
values : (c : After-shared_slice_known-2-1) → Binary32 c.args.floats.now
values c = all_of (λ (x : Float). T (fits binary32 x)) c.args.floats.now nan (λ (i : ℕ) h. c.type_inv.floats i)

pub returns-then-outside : goal.returns-then-outside
unfolding decision_of code_of
returns-then-outside c = by_nodes _ _ _ _ _ (sym c.outside.ensures ∙ c.if-outside.true)

pub returns-then-outside-2 : goal.returns-then-outside-2
unfolding decision_of code_of
returns-then-outside-2 c = by_k _ _ _ _ _ (sym c.outside.ensures ∙ c.if-outside.false) (sym c.outside-2.ensures ∙ c.if-outside-2.true)

pub wrong_state-requires : goal.wrong_state-requires
wrong_state-requires c = ((within 2 1024 _ (sym c.outside.ensures ∙ c.if-outside.false)).to, (within 1 64 _ (sym c.outside-2.ensures ∙ c.if-outside-2.false)).to)

pub returns-then-wrong_state : goal.returns-then-wrong_state
unfolding decision_of code_of
returns-then-wrong_state c = by_lengths _ _ _ _ _ (sym c.outside.ensures ∙ c.if-outside.false) (sym c.outside-2.ensures ∙ c.if-outside-2.false) (sym c.wrong_state.ensures ∙ c.if-wrong_state.true)

pub relay_formed-requires : goal.relay_formed-requires
relay_formed-requires c = sized _ _ c.args.job _ _ (sym c.outside.ensures ∙ c.if-outside.false) (sym c.outside-2.ensures ∙ c.if-outside-2.false) (sym c.wrong_state.ensures ∙ c.if-wrong_state.false)

pub returns-then-not-relay_formed : goal.returns-then-not-relay_formed
unfolding decision_of code_of
returns-then-not-relay_formed c = by_state _ _ _ _ _ (sym c.outside.ensures ∙ c.if-outside.false) (sym c.outside-2.ensures ∙ c.if-outside-2.false) (sym c.wrong_state.ensures ∙ c.if-wrong_state.false) (sym c.relay_formed.ensures ∙ c.if-not-relay_formed.true)

pub no_step-requires : goal.no_step-requires
no_step-requires c =
    let z = sized _ _ c.args.job _ _ (sym c.outside.ensures ∙ c.if-outside.false) (sym c.outside-2.ensures ∙ c.if-outside-2.false) (sym c.wrong_state.ensures ∙ c.if-wrong_state.false) in
    (z.nodes, z.few, z.words, few-jobs z (values (goal.at.no_step-requires c).After-shared_slice_known-2-1) (sym c.relay_formed.ensures ∙ c.if-not-relay_formed.false) c.args.job)

pub returns-then-no_step : goal.returns-then-no_step
unfolding decision_of code_of
returns-then-no_step c = by_step _ _ _ _ _ (sym c.outside.ensures ∙ c.if-outside.false) (sym c.outside-2.ensures ∙ c.if-outside-2.false) (sym c.wrong_state.ensures ∙ c.if-wrong_state.false) (values (goal.at.returns-then-no_step c).After-shared_slice_known-2-1) (sym c.relay_formed.ensures ∙ c.if-not-relay_formed.false) (sym c.no_step.ensures ∙ c.if-no_step.true)

pub returns : goal.returns
unfolding decision_of code_of
returns c = by_none _ _ _ _ _ (sym c.outside.ensures ∙ c.if-outside.false) (sym c.outside-2.ensures ∙ c.if-outside-2.false) (sym c.wrong_state.ensures ∙ c.if-wrong_state.false) (values (goal.at.returns c).After-shared_slice_known-2-1) (sym c.relay_formed.ensures ∙ c.if-not-relay_formed.false) (sym c.no_step.ensures ∙ c.if-no_step.false)
