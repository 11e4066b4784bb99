-- What the search leaves of `exact::distances_from`.
use mathlib.Core.Path.{sym, ◌∙◌}
use native.Mathlib.Omega.{arith}
use lib.Ieee.{nan}
use Rattle.rules.specs.Distance.{between}
use Rattle.buffers.proofs.Laws.{written_none, written-more}
use Rattle.exact.proofs.Laws.{length-distances, get_d_distances}
use borrow.Author.Rules.{rules}
use Rattle.exact.proofs.distances_from.Goals as goal

pub loop-p-init : goal.loop-p-init
loop-p-init c = written_none _ _

pub loop-p-preserved : goal.loop-p-preserved
loop-p-preserved c =
    let args = c.args in
    let long = length-distances (between args.counters.lanes.now args.counters.dimension) args.counters.n args.q.0 in
    written-more _ nan c.loop-p.invariant (omega arith) (omega arith) (get_d_distances _ _ _ _ nan (search rules) ∙ sym c.between.ensures)
