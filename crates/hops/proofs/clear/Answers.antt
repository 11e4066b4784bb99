-- What the search leaves of `hops::clear`.
use mathlib.Core.Path.{ap, ◌∙◌}
use Prim.Native.Nat.{ℕ}
use mathlib.Core.List.{List}
use native.Mathlib.Omega.{arith}
use lib.ListN.{take}
use lib.Seq.{take_all}
use Rattle.rules.specs.Loops.{through}
use Rattle.hops.proofs.Laws.{clears, cleared_none, cleared_more, cleared_all}
use borrow.Author.Rules.{rules}
use Rattle.hops.proofs.clear.Goals as goal

pub loop-v-init : goal.loop-v-init
loop-v-init c = cleared_none

pub loop-v-preserved : goal.loop-v-preserved
loop-v-preserved c = cleared_more c.loop-v.invariant (search rules)

pub returns : goal.returns
returns c =
    let taken = take c.args.len c.args.out.now in
    c.loop-v.invariant.list ∙ ap (λ (vs : List ℕ). through clears vs c.args.flags.now) (take_all c.loop-v.v-index taken (omega arith)) ∙ cleared_all _ _ c.requires.0
