-- What the search leaves of `lists::shift_up`.
use mathlib.Core.Path.{◌≡◌, refl, sym}
use Prim.Native.Nat.{◌+◌, ◌-◌}
use native.Mathlib.Omega.{arith}
use lib.ListN.{length-set}
use borrow.Author.Rules.{rules}
use Rattle.lists.proofs.Slices.{hole_none, hole_turn}
use Rattle.lists.proofs.shift_up.Goals as goal

pub loop-i-init : goal.loop-i-init
loop-i-init c =
    record {
      from = search rules;
      to = search rules;
      nodes = sym (hole_none _ _ (search rules));
      dists = sym (hole_none _ _ (search rules));
      nodes_long = refl;
      dists_long = refl;
    }

pub loop-i-preserved : goal.loop-i-preserved
loop-i-preserved c =
    let inv = c.loop-i.invariant in
    let pre = c.requires in
    let same : c.loop-i.i - 1 + 1 ≡ c.loop-i.i = omega arith in
    record {
      from = search rules;
      to = search rules;
      nodes = rw same (hole_turn c.loop-i.i _ _ _ _ (search rules) inv.to pre.1 inv.nodes);
      dists = rw same (hole_turn c.loop-i.i _ _ _ _ (search rules) inv.to pre.2 inv.dists);
      nodes_long = simp length-set inv.nodes_long;
      dists_long = simp length-set inv.dists_long;
    }
