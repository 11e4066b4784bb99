-- `formed::lists_formed` meets its contract: the lists in front of the w-th are well formed. Assumes nothing.
use mathlib.Core.Path.{◌≡◌}
use mathlib.Core.Bool.{true}
use Rattle.rules.specs.Offers.{lists_formed}
use Rattle.formed.proofs.Laws.{list_in, lists_of}
use Rattle.formed.proofs.lists_formed.Given as goal

abbrev pub invariant-loop-w : goal.invariant-loop-w
invariant-loop-w l = lists_formed l.n (lists_of l.n (list_in l.n l.k l.nodes l.dists) l.w) ≡ true
