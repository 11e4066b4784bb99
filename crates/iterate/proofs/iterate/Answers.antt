-- `iterate::iterate` meets its contract: a row that holds, or one iteration. Assumes nothing.
use mathlib.Core.Path.{refl}
use Rattle.std.proofs.lemmas.Result.{err_from_is_err_and}
use native.Mathlib.Omega.{arith}
use lib.Dec.{T}
use lib.Ieee.{Float, nan, binary32, fits}
use Rattle.rules.specs.DescentCall.{DescentLent, iterate_table}
use Rattle.lists.proofs.Plain.{all_of}
use Rattle.descent.specs.Descent.{lent}
use Rattle.iterate.proofs.Table.{iterate_ready}
use Rattle.iterate.proofs.Outcomes.{iterate_refused, no_row, iterate_done}
use borrow.Author.Rules.{rules}
use Rattle.iterate.proofs.iterate.Goals.{Start}
use Rattle.iterate.proofs.iterate.Goals as goal

-- what was lent
abbrev lent_to : Start → DescentLent
lent_to c =
    let a = c.args in
    lent a.dimension a.n a.lanes.now a.k a.s a.draws.now a.state_u.now a.state_f.now a.scratch_u.now a.scratch_f.now

pub invariant_of-counters : goal.invariant_of-counters
unfolding iterate_table
invariant_of-counters c =
    let h = iterate_ready (lent_to (goal.at.invariant_of-counters c).Start) (no_row (lent_to (goal.at.invariant_of-counters c).Start) c.judge.ensures c.in_ok-judge.was) in
    record { whole = h.ready.lanes_long }

pub iterate_state-counts-requires : goal.iterate_state-counts-requires
unfolding iterate_table
iterate_state-counts-requires c =
    let h = iterate_ready (lent_to (goal.at.iterate_state-counts-requires c).Start) (no_row (lent_to (goal.at.iterate_state-counts-requires c).Start) c.judge.ensures c.in_ok-judge.was) in
    let r = h.ready in
    let room = r.words_room in (
      record { lanes_long = r.lanes_long; few = r.few_nodes; some = r.sizes.some_k; narrow = r.sizes.few_k; words = r.state_words; floats = r.state_floats },
      record { formed = h.formed; words = search rules; floats = all_of (λ (x : Float). T (fits binary32 x)) c.args.state_f.now nan (search rules) },
      r.sizes.few_s,
      h.draws,
      omega arith,
    )

pub returns-in_err-judge : goal.returns-in_err-judge
unfolding iterate_table
returns-in_err-judge c =
    let p = err_from_is_err_and c.from_residual.result c.from_residual.ensures.1 in
    rw (p.1, p.2) (iterate_refused _ c.in_err-judge.ensures refl)

pub returns : goal.returns
unfolding iterate_table
returns c =
    iterate_done _ (no_row (lent_to (goal.at.returns c).Start) c.judge.ensures c.in_ok-judge.was) c.iterate_state-counts.ensures c.zero_words.ensures c.zero_floats.ensures
