-- The context lists that begin and an iteration make are at most 64 long and name nodes below n. Assumes nothing.
use mathlib.Core.Path.{◌≡◌, refl}
use mathlib.Core.Bool.{Bool, true, false, cond, not, ◌&&◌}
use mathlib.Core.List.{List, [], ◌∷◌}
use Prim.Native.Nat.{ℕ, zero, suc, ◌+◌, ◌-◌, ◌*◌, ◌≤◌, ◌<◌}
use native.Mathlib.Nat.{mod-lt}
use native.Mathlib.Omega.{arith}
use lib.Dec.{eqb, ltb}
use lib.ListN.{length, take, drop, get_or, set, replicate, length-take, length-drop}
use borrow.Author.Tests.{ltb-true, ltb-false, eqb-true}
use Rattle.rules.specs.declared.Neighbor.{Neighbor}
use Rattle.rules.specs.Loops.{each}
use Rattle.rules.specs.Lists.{node_of, nodes_of}
use Rattle.rules.specs.Offers.{entry_formed, entries_formed, ascending, list_formed}
use Rattle.rules.specs.Descent.{Context, list_at, drawn, draws_from, begin_context, is_visited, new_of, old_of, swap, shuffle_from, shuffle, kept_new, kept_back, Renewed, renew, renew_all, members_back, reversed_old_of, reversed_new_of, context_of}
use Rattle.rules.proofs.Tests.{both}
use Rattle.rules.proofs.Loops.{length-ones}
use Rattle.lists.specs.All.{All}
use Rattle.lists.proofs.Plain.{all_append, all_take}
use Rattle.shuffles.proofs.Laws.{length-shuffle}
use Rattle.steps.proofs.Formed.{Kept}
use Rattle.encoded.proofs.Rows.{all_ones, all_drop, all_get_d}
use Rattle.relay_kept.proofs.Jobs.{all_set}
use Rattle.descent_kept.specs.Formed.{Each, Few, Below}
use Rattle.descent_kept.proofs.Lists.{turns_keeps, Lists}

module _ (n : ℕ) (some : 0 < n) where
  -- a list that a context may hold
  pub record Good (xs : List ℕ) : Type 0 where
    pub few : length xs ≤ 64
    pub below : Below n xs

  pub good_none : Good []
  good_none = record { few = omega arith; below = tt }

  abbrev P : ℕ → Type 0
  P v = v < n

  -- ---- draws

  pub good_draws : (draws : List ℕ) (at s : ℕ) → s ≤ 64 → Good (draws_from draws n at s)
  unfolding draws_from
  good_draws draws at s h =
      let e = length-ones (λ (j : ℕ). drawn draws n (at + j)) s in
      record {
        few = omega arith;
        below = all_ones (λ (j : ℕ). drawn draws n (at + j)) P s (λ (j : ℕ) (l : j < s). mod-lt (get_or draws (at + j) 0) some);
      }

  -- ---- shuffles

  swap-below : (p q : ℕ) (xs : List ℕ) → Below n xs → Below n (swap p q xs)
  unfolding swap
  swap-below p q xs X =
      all_set P (set xs p (get_or xs q 0)) q (get_or xs p 0) (all_set P xs p (get_or xs q 0) X (all_get_d P xs q 0 X some)) (all_get_d P xs p 0 X some)

  shuffle_from-below : (draws : List ℕ) (at p : ℕ) (xs : List ℕ) → Below n xs → Below n (shuffle_from draws at p xs)
  unfolding shuffle_from
  shuffle_from-below draws at zero xs X = X
  shuffle_from-below draws at (suc p) xs X =
      shuffle_from-below draws (suc at) p (swap (suc p) (drawn draws (suc (suc p)) at) xs) (swap-below (suc p) (drawn draws (suc (suc p)) at) xs X)

  shuffle-below : (draws : List ℕ) (at : ℕ) (xs : List ℕ) → Below n xs → Below n (shuffle draws at xs)
  unfolding shuffle
  shuffle-below draws at xs X = shuffle_from-below draws at (length xs - 1) xs X

  pub good_new : (draws : List ℕ) (s at : ℕ) (xs : List ℕ) → Good xs → Good (kept_new draws s at xs)
  unfolding kept_new
  good_new draws s at xs G = go (ltb s (length xs))
    where
      go : (b : Bool) → Good (cond b (drop s (shuffle draws at xs)) xs)
      go true =
          let a = length-drop s (shuffle draws at xs) in
          let b = length-shuffle draws at xs in
          let c = G.few in
          record { few = omega arith; below = all_drop P s (shuffle draws at xs) (shuffle-below draws at xs G.below) }
      go false = G

  pub good_back : (draws : List ℕ) (s at : ℕ) (xs : List ℕ) → s ≤ 64 → Below n xs → Good (kept_back draws s at xs)
  unfolding kept_back
  good_back draws s at xs h X = go (ltb s (length xs)) refl
    where
      go : (b : Bool) → ltb s (length xs) ≡ b → Good (cond b (take s (shuffle draws at xs)) xs)
      go true e =
          let a = length-take s (shuffle draws at xs) in
          record { few = omega arith; below = all_take P s (shuffle draws at xs) (shuffle-below draws at xs X) }
      go false e = let a = ltb-false s (length xs) e in record { few = omega arith; below = X }

  -- ---- new and old

  -- an entry that is filled names a node below n
  filled-below : (e : Neighbor) → entry_formed n e ≡ true → eqb (node_of e) n ≡ false → node_of e < n
  unfolding entry_formed
  filled-below e h f = ltb-true (node_of e) n (both (ltb (node_of e) n) _ (rw f at h)).0

  module _ (i : ℕ) (visited : List Bool) where
    new_is : (l : List Neighbor) → entries_formed n l ≡ true → (length (new_of n i visited l) ≤ length l) × Below n (new_of n i visited l)
    unfolding new_of entries_formed
    new_is [] h = (omega arith, tt)
    new_is (e ∷ l) h = go (eqb (node_of e) n) (is_visited n i (node_of e) visited) refl (new_is l (both (entry_formed n e) (entries_formed n l) h).1)
      where
        f : entry_formed n e ≡ true
        f = (both (entry_formed n e) (entries_formed n l) h).0

        go : (a b : Bool) → eqb (node_of e) n ≡ a → (length (new_of n i visited l) ≤ length l) × Below n (new_of n i visited l)
            → (length (cond (not a && b) (node_of e ∷ new_of n i visited l) (new_of n i visited l)) ≤ suc (length l)) × Below n (cond (not a && b) (node_of e ∷ new_of n i visited l) (new_of n i visited l))
        go true b q r = let a = r.0 in (omega arith, r.1)
        go false true q r = let a = r.0 in (omega arith, (filled-below e f q, r.1))
        go false false q r = let a = r.0 in (omega arith, r.1)

    old-is : (l : List Neighbor) → entries_formed n l ≡ true → (length (old_of n i visited l) ≤ length l) × Below n (old_of n i visited l)
    unfolding old_of entries_formed
    old-is [] h = (omega arith, tt)
    old-is (e ∷ l) h = go (eqb (node_of e) n) (not (is_visited n i (node_of e) visited)) refl (old-is l (both (entry_formed n e) (entries_formed n l) h).1)
      where
        f : entry_formed n e ≡ true
        f = (both (entry_formed n e) (entries_formed n l) h).0

        go : (a b : Bool) → eqb (node_of e) n ≡ a → (length (old_of n i visited l) ≤ length l) × Below n (old_of n i visited l)
            → (length (cond (not a && b) (node_of e ∷ old_of n i visited l) (old_of n i visited l)) ≤ suc (length l)) × Below n (cond (not a && b) (node_of e ∷ old_of n i visited l) (old_of n i visited l))
        go true b q r = let a = r.0 in (omega arith, r.1)
        go false true q r = let a = r.0 in (omega arith, (filled-below e f q, r.1))
        go false false q r = let a = r.0 in (omega arith, r.1)

  entries_of_kept : (l : List Neighbor) → Kept n l → entries_formed n l ≡ true
  unfolding list_formed
  entries_of_kept l K = (both (ascending l) (entries_formed n l) K.formed).1

  -- no node of a list is above n
  pub none_above : (l : List Neighbor) → Kept n l → All (λ (v : ℕ). v ≤ n) (nodes_of l)
  unfolding nodes_of entries_formed
  none_above l K = go l (entries_of_kept l K)
    where
      one : (e : Neighbor) → entry_formed n e ≡ true → (b : Bool) → eqb (node_of e) n ≡ b → node_of e ≤ n
      one e h true q = let a = eqb-true (node_of e) n q in omega arith
      one e h false q = let a = filled-below e h q in omega arith

      go : (l : List Neighbor) → entries_formed n l ≡ true → All (λ (v : ℕ). v ≤ n) (nodes_of l)
      go [] h = tt
      go (e ∷ es) h =
          let b = both (entry_formed n e) (entries_formed n es) h in
          (one e b.0 (eqb (node_of e) n) refl, go es b.1)

  pub record Renewing (r : Renewed) : Type 0 where
    pub news : All Good r.news
    pub olds : All Good r.olds

  pub all-renewed : (draws : List ℕ) (k s : ℕ) (visited : List Bool) (ls : List (List Neighbor)) → k ≤ 64 → Lists n k ls → Renewing (renew_all draws n s visited ls)
  unfolding renew_all renew
  all-renewed draws k s visited ls h L =
      turns_keeps Renewing (renew draws n s visited ls) n (λ (i : ℕ) (r : Renewed) (l : i < n) (R : Renewing r). turn i r l R)
      (record { news = []; olds = []; total = 0; at = 0 }) (record { news = tt; olds = tt })
    where
      turn : (i : ℕ) (r : Renewed) → i < n → Renewing r → Renewing (renew draws n s visited ls i r)
      turn i r l R =
          let e = entries_of_kept (list_at ls i) (L.kept i l) in
          let m = L.long i l in
          let a = new_is i visited (list_at ls i) e in
          let b = old-is i visited (list_at ls i) e in
          let a0 = a.0 in
          let b0 = b.0 in
          let A : Good (new_of n i visited (list_at ls i)) = record { few = omega arith; below = a.1 } in
          let B : Good (old_of n i visited (list_at ls i)) = record { few = omega arith; below = b.1 } in
          record {
            news = all_append Good r.news (kept_new draws s r.at (new_of n i visited (list_at ls i)) ∷ []) R.news (good_new draws s r.at (new_of n i visited (list_at ls i)) A, tt);
            olds = all_append Good r.olds (old_of n i visited (list_at ls i) ∷ []) R.olds (B, tt);
          }

  -- ---- reversed lists

  below-same : (m i : ℕ) → i < n → Below n (replicate m i)
  below-same zero i h = tt
  below-same (suc m) i h = (h, below-same m i h)

  below-each_of : (members : List (List ℕ)) (m : ℕ) → m ≤ n → Below n (each (λ (i : ℕ). replicate (length (get_or members i [])) i) m)
  unfolding each
  below-each_of members zero h = tt
  below-each_of members (suc m) h =
      all_append P (each (λ (i : ℕ). replicate (length (get_or members i [])) i) m) (replicate (length (get_or members m [])) m) (below-each_of members m (omega arith))
      (below-same (length (get_or members m [])) m h)

  members-below : (members : List (List ℕ)) (w : ℕ) → Below n (members_back n members w)
  unfolding members_back
  members-below members w = below-each_of members n (omega arith)

  pub good_context : (draws : List ℕ) (s : ℕ) (r : Renewed) (w : ℕ) → s ≤ 64 → Renewing r → Each Good (context_of draws n s r w)
  unfolding context_of reversed_old_of reversed_new_of
  good_context draws s r w h R =
      record {
        new = all_get_d Good r.news w [] R.news good_none;
        old = all_get_d Good r.olds w [] R.olds good_none;
        reversed_new = good_back draws s _ (members_back n r.news w) h (members-below r.news w);
        reversed_old = good_back draws s r.at (members_back n r.olds w) h (members-below r.olds w);
      }

  pub good_begin : (draws : List ℕ) (s i : ℕ) → s ≤ 64 → Each Good (begin_context draws n s i)
  unfolding begin_context
  good_begin draws s i h =
      record { new = good_draws draws (2 * s * i) s h; old = good_none; reversed_new = good_draws draws (2 * s * i + s) s h; reversed_old = good_none }

  pub few-each : (c : Context) → Each Good c → Each Few c
  few-each c G = record { new = G.new.few; old = G.old.few; reversed_new = G.reversed_new.few; reversed_old = G.reversed_old.few }

  pub below_each : (c : Context) → Each Good c → Each (Below n) c
  below_each c G = record { new = G.new.below; old = G.old.below; reversed_new = G.reversed_new.below; reversed_old = G.reversed_old.below }
