-- What the search leaves of `hops::member_hops`.
use mathlib.Core.Path.{refl}
use native.Mathlib.Omega.{arith}
use Rattle.hops.proofs.Laws.{walked_turn, walked_end, walked_full}
use borrow.Author.Rules.{rules}
use Rattle.hops.proofs.member_hops.Goals as goal

pub returns-then-limit-taken : goal.returns-then-limit-taken
returns-then-limit-taken c =
    let held = c.loop-v.invariant.held in
    let long = held.out_long in
    let within = held.within in
    rw (← c.list_of-v-items.ensures) (walked_full _ _ c.loop-v.invariant (search rules) (search rules))

pub loop-v-preserved : goal.loop-v-preserved
loop-v-preserved c = walked_turn c.loop-v.invariant (omega arith) refl c.hop-taken.ensures.within c.hop-taken.ensures

pub returns : goal.returns
returns c = rw (← c.list_of-v-items.ensures) (walked_end c.loop-v.invariant (omega arith))
