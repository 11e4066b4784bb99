-- The updates of an iteration, on the lent numbers, in any order. Assumes nothing.
use mathlib.Core.Path.{◌≡◌, refl, ap, ◌∙◌}
use mathlib.Core.List.{List, [], ◌++◌}
use Prim.Native.Nat.{ℕ, ◌<◌}
use native.Mathlib.Omega.{arith}
use lib.ListN.{length}
use Rattle.rules.specs.declared.Neighbor.{Neighbor}
use Rattle.rules.specs.Loops.{through}
use Rattle.rules.specs.Distance.{between}
use Rattle.rules.specs.Lists.{least}
use Rattle.rules.specs.Build.{Between}
use Rattle.rules.specs.Refusals.{passed, decide}
use Rattle.rules.specs.Descent.{Descent, list_at, Pair, update, iterated}
use Rattle.rules.specs.Places.{lists_in, list_floats}
use Rattle.rules.specs.DescentPlaces.{descent_state, descent_in}
use Rattle.rules.specs.DescentCall.{DescentLent, descent_written, iterate_table, iterate_ends, iterate_obeys, iterate_rule}
use Rattle.neighbor.proofs.Bits.{holdable_between}
use Rattle.lists.specs.Ascending.{Perm}
use Rattle.lists.proofs.Plain.{all-at}
use Rattle.steps.proofs.Formed.{kept-ascending}
use Rattle.encoded.specs.Words.{Binary32}
use Rattle.descent_kept.specs.Formed.{Formed}
use Rattle.descent_kept.proofs.Back.{descent-back}
use Rattle.descent_kept.proofs.Calls.{iterate_sizes, read-formed, iterate_formed}
use Rattle.orders.specs.Updates.{offered_by, ListsOf, AnyOrder, lent_lists, met_pairs, left_lists, IterationOrder}
use Rattle.orders.proofs.Updates.{any_order}

formed-lists : {n k : ℕ} (x : Descent) → Formed n k x → ListsOf n k x.lists
formed-lists {n} {k} x F =
    let sz = F.fitting.nodes in
    record {
      nodes = F.fitting.nodes;
      long = λ (w : ℕ) (wn : w < n). all-at (λ (l : List Neighbor). length l ≡ k) x.lists w [] F.fitting.rows (omega arith);
      held = λ (w : ℕ) (wn : w < n). (F.lists w wn).holdable;
      ascends = λ (w : ℕ) (wn : w < n). kept-ascending (F.lists w wn);
    }

module _ (l : DescentLent) (B : Binary32 l.state_f) (h : decide (iterate_table l) ≡ passed) where
  abbrev d : Between
  d = between l.lanes l.dimension

  abbrev x : Descent
  x = descent_in l.n l.k l.state_u l.state_f

  abbrev y : Descent
  y = (iterated d l.draws l.n l.k l.s x).descent

  orders : AnyOrder d l.n l.k x.lists
  orders =
      any_order d l.n l.k (iterate_sizes l B h).some (holdable_between l.lanes l.dimension) x.lists (formed-lists x (read-formed l B h))

  -- what is written is read back
  read_back : lists_in l.n l.k (descent_state l.n y) (list_floats y.lists) ≡ y.lists
  unfolding descent_in
  read_back = ap (λ (z : Descent). z.lists) (descent-back l.n l.k y (iterate_formed l B h).fitting)

  left_is : left_lists l ≡ y.lists
  unfolding iterate_rule iterate_obeys iterate_ends descent_written
  left_is = rw h read_back

  updated : left_lists l ≡ through (update d l.k) (met_pairs l) x.lists
  updated = left_is ∙ orders.iteration l.draws l.s x refl

  lent_is : x.lists ≡ lent_lists l
  unfolding descent_in
  lent_is = refl

  pub iteration-order : IterationOrder l
  iteration-order =
      record {
        lists = λ (w : ℕ) (wn : w < l.n).
            ap (λ (ls : List (List Neighbor)). list_at ls w) updated ∙ orders.lists (met_pairs l) w wn
            ∙ ap (λ (ls : List (List Neighbor)). least l.k (list_at ls w ++ offered_by d w (met_pairs l))) lent_is;
        same = λ (ps : List Pair) (p : Perm (met_pairs l) ps). updated ∙ orders.same (met_pairs l) ps p ∙ ap (through (update d l.k) ps) lent_is;
      }
