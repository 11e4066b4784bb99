-- `renews::renew_all` meets its contract: the contexts before the i-th are written. Assumes nothing.
use mathlib.Core.Path.{◌≡◌}
use lib.ListN.{length}
use Rattle.renews.specs.Renews.{Renews}
use Rattle.renews.proofs.renew_all.Given as goal

abbrev pub invariant-loop-i : goal.invariant-loop-i
invariant-loop-i l = (length l.found ≡ 64) × Renews l.draws l.n l.k l.s l.words l.initial.contexts l.contexts l.so_far.total l.so_far.at l.i
