-- `relay_close::lowest_unfinished` meets its contract: the jobs before the i-th are finished. Assumes nothing.
use mathlib.Core.Path.{◌≡◌}
use Prim.Native.Nat.{◌-◌}
use Rattle.rules.specs.Loops.{first_from}
use Rattle.relay_close.specs.Close.{steps_left}
use Rattle.relay_close.proofs.lowest_unfinished.Given as goal

abbrev pub invariant-loop-i : goal.invariant-loop-i
invariant-loop-i l = first_from (steps_left l.n l.k l.words) l.i (l.count - l.i) ≡ first_from (steps_left l.n l.k l.words) 0 l.count
