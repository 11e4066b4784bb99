-- `lists::shift_up` meets its contract. The loop's invariant: what stands from `i` up to `last` is moved. Assumes nothing.
use mathlib.Core.Path.{◌≡◌}
use mathlib.Core.List.{List}
use Prim.Native.Nat.{ℕ, ◌≤◌}
use lib.ListN.{length}
use lib.Ieee.{Float}
use Rattle.lists.specs.Lists.{hole}
use Rattle.lists.proofs.shift_up.Given as goal

pub record Moved (ns : List ℕ) (ds : List Float) (p last : ℕ) (ns' : List ℕ) (ds' : List Float) (i : ℕ) : Type 0 where
  pub from : p ≤ i
  pub to : i ≤ last
  pub nodes : ns' ≡ hole i last ns
  pub dists : ds' ≡ hole i last ds
  pub nodes_long : length ns' ≡ length ns
  pub dists_long : length ds' ≡ length ds

abbrev pub invariant-loop-i : goal.invariant-loop-i
invariant-loop-i l = Moved l.initial.nodes l.initial.dists l.p l.last l.nodes l.dists l.i
