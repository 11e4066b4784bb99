-- `passes::meet_all` meets its contract: the contexts before the i-th are done. Assumes nothing.
use Prim.Native.Nat.{ℕ, ◌*◌}
use lib.ListN.{drop}
use Rattle.rules.specs.Loops.{through}
use Rattle.rules.specs.Distance.{between}
use Rattle.rules.specs.Descent.{meet, passes}
use Rattle.rules.specs.DescentPlaces.{context_in}
use Rattle.passes.proofs.Laws.{Doing}
use Rattle.passes.proofs.meet_all.Given as goal

abbrev pub invariant-loop-i : goal.invariant-loop-i
invariant-loop-i l = Doing l.counters.n l.k 28672 (λ (j : ℕ). through (meet (between l.counters.lanes.now l.counters.dimension) l.counters.n l.k) (passes (context_in (drop (260 * j) l.contexts)))) l.initial.words l.initial.floats 0 l.words l.floats l.total l.i
