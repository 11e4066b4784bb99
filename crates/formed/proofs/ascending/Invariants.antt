-- `formed::ascending` meets its contract: the entries from the one in front of place i on are tested. Assumes nothing.
use mathlib.Core.Path.{◌≡◌}
use Prim.Native.Nat.{◌-◌}
use lib.ListN.{drop}
use Rattle.rules.specs.Lists.{entries}
use Rattle.rules.specs.Offers as Offers
use Rattle.formed.proofs.ascending.Given as goal

abbrev pub invariant-loop-i : goal.invariant-loop-i
invariant-loop-i l = Offers.ascending (drop (l.i - 1) (entries l.len l.nodes l.dists)) ≡ Offers.ascending (entries l.len l.nodes l.dists)
