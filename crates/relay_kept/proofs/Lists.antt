-- Well-formed lists: what the tests say of them, and that a push and a pop keep them so. Assumes nothing.
use mathlib.Core.Path.{◌≡◌, refl}
use mathlib.Core.Bool.{true}
use mathlib.Core.List.{List, [], ◌∷◌}
use Prim.Native.Nat.{ℕ, zero, suc, ◌<◌, zero-le, suc-le-suc}
use native.Mathlib.Nat.{le_of_suc-le-suc, not-suc-le-zero}
use lib.Dec.{T}
use lib.ListN.{length, take, get_or}
use lib.Ieee.{binary32, fits}
use Rattle.rules.specs.declared.Neighbor.{Neighbor}
use Rattle.rules.specs.Lists.{insert, distances_of}
use Rattle.rules.specs.Offers.{entry_formed, entries_formed, ascending, list_formed, lists_formed}
use Rattle.rules.proofs.Tests.{both, together}
use Rattle.neighbor.specs.Holdable.{Holdable}
use Rattle.lists.specs.All.{All}
use Rattle.steps.proofs.Formed.{of_ascending, Kept, kept_of, kept-ascending, kept_push, kept-take}
use Rattle.encoded.specs.Words.{Binary32}
use Rattle.relay_kept.specs.Formed.{ListFormed}

module _ (n : ℕ) where
  -- ---- one list

  pub formed-list : (l : List Neighbor) → ListFormed n l → list_formed n l ≡ true
  unfolding list_formed
  formed-list l L = together (ascending l) (entries_formed n l) (of_ascending l L.ascends) L.entries

  to-kept : (l : List Neighbor) → ListFormed n l → Kept n l
  to-kept l L = record { holdable = L.held; formed = formed-list l L }

  of_kept : (l : List Neighbor) → Kept n l → ListFormed n l
  unfolding list_formed
  of_kept l K = record { ascends = kept-ascending K; held = K.holdable; entries = (both (ascending l) (entries_formed n l) K.formed).1 }

  pub binary-each : (l : List Neighbor) → Binary32 (distances_of l) → All (λ (e : Neighbor). T (fits binary32 e.distance)) l
  unfolding distances_of
  binary-each [] F = tt
  binary-each (e ∷ l) F = (F.0, binary-each l F.1)

  pub list-formed : (l : List Neighbor) → Binary32 (distances_of l) → list_formed n l ≡ true → ListFormed n l
  list-formed l F h = of_kept l (kept_of n l (binary-each l F) h)

  pub formed-insert : (e : Neighbor) (l : List Neighbor) → Holdable e.distance → entry_formed n e ≡ true → ListFormed n l → ListFormed n (insert e l)
  formed-insert e l E h L = of_kept (insert e l) (kept_push (to-kept l L) e E.held h)

  pub formed-take : (m : ℕ) (l : List Neighbor) → ListFormed n l → ListFormed n (take m l)
  formed-take m l L = of_kept (take m l) (kept-take (to-kept l L) m)

  -- ---- all lists

  pub lists-formed : (ls : List (List Neighbor)) (w : ℕ) → lists_formed n ls ≡ true → w < length ls → list_formed n (get_or ls w []) ≡ true
  unfolding lists_formed
  lists-formed [] w h l = absurd (not-suc-le-zero l)
  lists-formed (x ∷ ls) zero h l = (both (list_formed n x) (lists_formed n ls) h).0
  lists-formed (x ∷ ls) (suc w) h l = lists-formed ls w (both (list_formed n x) (lists_formed n ls) h).1 (le_of_suc-le-suc l)

  pub formed-lists : (ls : List (List Neighbor)) → ((w : ℕ) → w < length ls → list_formed n (get_or ls w []) ≡ true) → lists_formed n ls ≡ true
  unfolding lists_formed
  formed-lists [] f = refl
  formed-lists (x ∷ ls) f =
      together (list_formed n x) (lists_formed n ls) (f 0 (suc-le-suc zero-le)) (formed-lists ls (λ (w : ℕ) (h : w < length ls). f (suc w) (suc-le-suc h)))
