-- `passes::pass` meets its contract. Assumes nothing.
use Prim.Native.Nat.{ℕ}
use lib.ListN.{get_or, drop}
use Rattle.rules.specs.Loops.{through}
use Rattle.rules.specs.Distance.{between}
use Rattle.rules.specs.Descent.{meet}
use Rattle.passes.specs.Passes.{row_pairs, first_of}
use Rattle.passes.proofs.Laws.{Doing}
use Rattle.passes.proofs.pass.Given as goal

abbrev pub invariant-loop-i : goal.invariant-loop-i
invariant-loop-i l = Doing l.counters.n l.k 64 (λ (j : ℕ). through (meet (between l.counters.lanes.now l.counters.dimension) l.counters.n l.k) (row_pairs l.rising (get_or l.us j 0) (drop (first_of l.behind l.rising j) l.vs))) l.initial.words l.initial.floats l.cost l.words l.floats l.total l.i
