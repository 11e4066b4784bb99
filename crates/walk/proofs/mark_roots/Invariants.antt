-- `walk::mark_roots` meets its contract: the marks that are left give the whole. Assumes nothing.
use mathlib.Core.Path.{◌≡◌}
use lib.ListN.{length, drop}
use Rattle.rules.specs.Loops.{through}
use Rattle.rules.specs.Search.{mark}
use Rattle.walk.proofs.mark_roots.Given as goal

abbrev pub invariant-loop-v : goal.invariant-loop-v
invariant-loop-v l = (through mark (drop l.v-index l.roots) l.flags ≡ through mark l.roots l.initial.flags) × (length l.flags ≡ length l.initial.flags)
