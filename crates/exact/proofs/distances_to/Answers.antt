-- What the search leaves of `exact::distances_to`.
use mathlib.Core.Path.{sym, ◌∙◌}
use native.Mathlib.Omega.{arith}
use lib.ListN.{take, get_or-map}
use lib.Seq.{length-take-le}
use Rattle.rules.specs.Distance.{between}
use Rattle.buffers.proofs.Laws.{written_none, written-more}
use Rattle.exact.proofs.Laws.{length_some}
use Rattle.exact.proofs.distances_to.Goals as goal

pub loop-i-init : goal.loop-i-init
loop-i-init c = written_none _ _

pub loop-i-preserved : goal.loop-i-preserved
loop-i-preserved c =
    let args = c.args in
    let all = length-take-le args.len args.nodes.now c.requires.len_in_bounds.0 in
    let long = length_some (between args.counters.lanes.now args.counters.dimension args.q.0) args.nodes.now args.len c.requires.len_in_bounds.0 in
    written-more _ _ c.loop-i.invariant (omega arith) (omega arith) (get_or-map (between args.counters.lanes.now args.counters.dimension args.q.0) (take args.len args.nodes.now) c.loop-i.i 0 ∙ sym c.between.ensures)
