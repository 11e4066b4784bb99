-- `prune::by_four` meets its contract. The loop's invariant: one of those that are left occludes where one of all does. Assumes nothing.
use mathlib.Core.Path.{◌≡◌}
use Prim.Native.Nat.{◌-◌}
use lib.ListN.{drop}
use Rattle.rules.specs.Loops.{any_of}
use Rattle.rules.specs.Lists.{entries}
use Rattle.rules.specs.Distance.{between}
use Rattle.rules.specs.Build.{occludes}
use Rattle.prune.proofs.by_four.Given as goal

abbrev pub invariant-loop-i : goal.invariant-loop-i
invariant-loop-i l = any_of (occludes (between l.counters.lanes.now l.counters.dimension) l.threshold l.equal_too l.p) (drop l.i (entries l.kept l.nodes l.dists)) ≡ any_of (occludes (between l.counters.lanes.now l.counters.dimension) l.threshold l.equal_too l.p) (entries l.kept l.nodes l.dists)

abbrev pub decreases-loop-i : goal.decreases-loop-i
decreases-loop-i l = l.kept - l.i
