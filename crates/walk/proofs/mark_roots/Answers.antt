-- What the search leaves of `walk::mark_roots`.
use mathlib.Core.Path.{refl, sym, ◌∙◌}
use native.Mathlib.Omega.{arith}
use lib.ListN.{length-set}
use Rattle.rules.specs.Search.{mark}
use Rattle.rules.proofs.Loops.{through_turn, through-end}
use borrow.Author.Rules.{rules}
use Rattle.walk.proofs.mark_roots.Goals as goal

pub loop-v-init : goal.loop-v-init
loop-v-init c = (refl, refl)

pub offset_bounds-flags-v : goal.offset_bounds-flags-v
offset_bounds-flags-v c =
    let long = c.loop-v.invariant.1 in
    let below = c.requires c.loop-v.v-index (search rules) in
    search rules

pub bounds-flags-v : goal.bounds-flags-v
bounds-flags-v c =
    let long = c.loop-v.invariant.1 in
    let below = c.requires c.loop-v.v-index (search rules) in
    omega arith

pub loop-v-preserved : goal.loop-v-preserved
unfolding mark
loop-v-preserved c =
    (through_turn mark _ c.loop-v.v-index 0 c.loop-v.flags (search rules) ∙ c.loop-v.invariant.0, simp length-set c.loop-v.invariant.1)

pub shape_of-flags : goal.shape_of-flags
shape_of-flags c = c.loop-v.invariant.1

pub returns : goal.returns
returns c = sym (through-end mark _ c.loop-v.v-index c.loop-v.flags (search rules)) ∙ c.loop-v.invariant.0
