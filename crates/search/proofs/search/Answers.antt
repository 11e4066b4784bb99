-- `search::search` meets its contract: a row that holds, or the work. Assumes nothing.
use mathlib.Core.Path.{refl}
use Rattle.std.proofs.lemmas.Result.{err_from_is_err_and}
use Rattle.rules.specs.SearchCall.{SearchLent, search_table}
use Rattle.search.specs.Search.{lent}
use Rattle.search.proofs.Table.{ready}
use Rattle.search.proofs.Outcomes.{searched_refused, no_row, searched_worked}
use Rattle.search.proofs.search.Goals.{Start}
use Rattle.search.proofs.search.Goals as goal

-- what the call was lent
abbrev lent_to : Start → SearchLent
lent_to start =
    let a = start.args in
    lent a.dimension a.n a.lanes.now a.graph.now a.index_size a.roots.now a.query.now a.k a.result_nodes.now a.result_bits.now
    a.scratch_u.now a.scratch_f.now

pub invariant_of-counters : goal.invariant_of-counters
unfolding search_table
invariant_of-counters c =
    let r = ready _ (no_row (lent_to (goal.at.invariant_of-counters c).Start) c.judge.ensures c.in_ok-judge.was) in
    record { whole = r.lanes_long }

pub invariant_of-work : goal.invariant_of-work
unfolding search_table
invariant_of-work c =
    let r = ready _ (no_row (lent_to (goal.at.invariant_of-work c).Start) c.judge.ensures c.in_ok-judge.was) in
    record { fitting = r.query_long }

pub work-requires : goal.work-requires
unfolding search_table
work-requires c = ready _ (no_row (lent_to (goal.at.work-requires c).Start) c.judge.ensures c.in_ok-judge.was)

pub returns-in_err-judge : goal.returns-in_err-judge
unfolding search_table
returns-in_err-judge c =
    let p = err_from_is_err_and c.from_residual.result c.from_residual.ensures.1 in
    rw (p.1, p.2) (searched_refused _ c.in_err-judge.ensures refl)

pub returns : goal.returns
unfolding search_table
returns c = searched_worked _ (no_row (lent_to (goal.at.returns c).Start) c.judge.ensures c.in_ok-judge.was) c.work.ensures
