-- A look at the last of a list in two slices, and an offer that is taken up or not. Assumes nothing.
use mathlib.Core.Path.{◌≡◌, refl, sym, ap, ◌∙◌}
use mathlib.Core.Bool.{true, false, not}
use mathlib.Core.List.{List}
use Prim.Native.Nat.{ℕ, ◌-◌, ◌≤◌}
use native.Mathlib.Omega.{arith}
use lib.ListN.{length, get_or}
use lib.Ieee.{Float, lt}
use Rattle.rules.specs.declared.Neighbor.{Neighbor}
use Rattle.rules.specs.Distance.{zero32}
use Rattle.rules.specs.Lists.{neighbor, entries}
use Rattle.rules.specs.Search.{farthest}
use Rattle.rules.specs.Offers.{look}
use Rattle.lists.specs.Lists.{PushedCut}
use Rattle.lists.proofs.Slices.{length-entries, get_d_entries}
use Rattle.steps.specs.Steps.{OfferedTo}
use Rattle.steps.proofs.Laws.{offer-taken, offer-left}

module _ (ns : List ℕ) (ds : List Float) (len : ℕ) (some : 1 ≤ len) (h : len ≤ length ns) (g : len ≤ length ds) where
  pub look_is : (d : Float) (e : Neighbor) → look e (entries len ns ds) ≡ not (lt (get_or ds (len - 1) d) e.distance)
  unfolding look farthest
  look_is d e =
      let long = length-entries len ns ds h g in
      ap (λ (x : Neighbor). not (lt x.distance e.distance))
      (ap (λ (i : ℕ). get_or (entries len ns ds) (i - 1) (neighbor 0 zero32)) long
      ∙ get_d_entries len (len - 1) ns ds 0 d (neighbor 0 zero32) (omega arith) h g)

  pub offered-taken : {e : Neighbor} {ns' : List ℕ} {ds' : List Float} {r : ℕ} → look e (entries len ns ds) ≡ true → PushedCut ns ds len len e ns' ds' r → OfferedTo ns ds len e ns' ds'
  offered-taken {e} {ns'} {ds'} {r} t made =
      let count = made.count in
      let same : r ≡ len = omega arith in
      let m : PushedCut ns ds len len e ns' ds' len = rw same at made in
      record {
        list = m.list ∙ sym (offer-taken len e (entries len ns ds) (length-entries len ns ds h g) t);
        nodes_rest = m.nodes_rest;
        dists_rest = m.dists_rest;
        nodes_long = m.nodes_long;
        dists_long = m.dists_long;
      }

  pub offered-left : {e : Neighbor} → look e (entries len ns ds) ≡ false → OfferedTo ns ds len e ns ds
  offered-left {e} t =
      record {
        list = sym (offer-left len e (entries len ns ds) t);
        nodes_rest = refl;
        dists_rest = refl;
        nodes_long = refl;
        dists_long = refl;
      }
