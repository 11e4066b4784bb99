-- `passes::meet_row` meets its contract. Assumes nothing.
use Prim.Native.Nat.{ℕ}
use lib.ListN.{get_or}
use Rattle.rules.specs.Loops.{through}
use Rattle.rules.specs.Distance.{between}
use Rattle.rules.specs.Descent.{meet}
use Rattle.passes.specs.Passes.{one_pair}
use Rattle.passes.proofs.Laws.{Doing}
use Rattle.passes.proofs.meet_row.Given as goal

abbrev pub invariant-loop-v : goal.invariant-loop-v
invariant-loop-v l = Doing l.counters.n l.k 1 (λ (j : ℕ). through (meet (between l.counters.lanes.now l.counters.dimension) l.counters.n l.k) (one_pair l.rising l.u.0 (get_or l.vs j 0))) l.initial.words l.initial.floats l.cost l.words l.floats l.total l.v-index
