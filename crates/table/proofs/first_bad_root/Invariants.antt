-- `table::first_bad_root` meets its contract: the first bad root from place i on is that of all. Assumes nothing.
use mathlib.Core.Path.{◌≡◌}
use Prim.Native.Nat.{◌-◌}
use lib.ListN.{length}
use Rattle.rules.specs.Loops.{first_from}
use Rattle.rules.specs.Refusals.{bad_root, first_bad_root}
use Rattle.table.proofs.first_bad_root.Given as goal

abbrev pub invariant-loop-i : goal.invariant-loop-i
invariant-loop-i l = first_from (bad_root l.n l.roots) l.i (length l.roots - l.i) ≡ first_bad_root l.n l.roots
