-- `relay_opening::open` meets its contract: the table, or the state written. Assumes nothing.
use mathlib.Core.Path.{refl}
use native.Mathlib.Omega.{arith}
use Rattle.std.proofs.lemmas.Result.{err_from_is_err_and}
use Rattle.rules.specs.RelayCall.{OpenLent, open_table, opened_on}
use Rattle.relay_opening.specs.Opening.{lent}
use Rattle.relay_opening.proofs.Outcomes.{open_refused, no_row, open_ready, open_done}
use Rattle.relay_opening.proofs.open.Goals.{Start}
use Rattle.relay_opening.proofs.open.Goals as goal

-- what was lent
abbrev lent_to : Start → OpenLent
lent_to c =
    let a = c.args in
    lent a.dimension a.n a.lanes.now a.k a.nodes.now a.distances.now a.jobs.now a.state_u.now a.state_f.now a.scratch_u.now a.scratch_f.now

pub invariant_of-counters : goal.invariant_of-counters
unfolding open_table
invariant_of-counters c =
    let r = open_ready (lent_to (goal.at.invariant_of-counters c).Start) (no_row (lent_to (goal.at.invariant_of-counters c).Start) c.judge.ensures c.in_ok-judge.was) in
    record { whole = r.lanes_long }

pub write_state-requires : goal.write_state-requires
unfolding open_table
write_state-requires c =
    let r = open_ready (lent_to (goal.at.write_state-requires c).Start) (no_row (lent_to (goal.at.write_state-requires c).Start) c.judge.ensures c.in_ok-judge.was) in
    record { lanes_len = (r.jobs_good, record { nodes = r.few_nodes; some = r.some_k; few = r.few_k; words = r.words_long; floats = r.floats_long }); nodes_len = (r.nodes_long, r.distances_long) }

pub returns-in_err-judge : goal.returns-in_err-judge
unfolding open_table
returns-in_err-judge c =
    let p = err_from_is_err_and c.from_residual.result c.from_residual.ensures.1 in
    rw (p.1, p.2) (open_refused _ c.in_err-judge.ensures refl)

pub returns : goal.returns
unfolding open_table opened_on
returns c = open_done _ (no_row (lent_to (goal.at.returns c).Start) c.judge.ensures c.in_ok-judge.was) c.write_state.ensures c.zero_words.ensures c.zero_floats.ensures
