-- What the search leaves of `hops::two_hops`.
use mathlib.Core.Path.{refl}
use native.Mathlib.Omega.{arith}
use Rattle.rules.specs.Build.{two_hops}
use Rattle.hops.proofs.Laws.{walked_turn, walked_end}
use Rattle.hops.proofs.two_hops.Goals as goal

pub loop-v-preserved : goal.loop-v-preserved
loop-v-preserved c = walked_turn c.loop-v.invariant (omega arith) refl c.member_hops-taken.ensures.within c.member_hops-taken.ensures

pub returns : goal.returns
unfolding two_hops
returns c = rw (← c.list_of-v-items.ensures) (walked_end c.loop-v.invariant (omega arith))
