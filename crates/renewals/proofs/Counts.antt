-- The lists of a renewal, node by node, and how many draws it uses. Assumes nothing.
use mathlib.Core.Path.{◌≡◌, refl, ap, ◌∙◌}
use mathlib.Core.Bool.{Bool, true, false, cond, not, ◌&&◌}
use mathlib.Core.List.{List, [], ◌∷◌, ◌++◌}
use Prim.Native.Nat.{ℕ, zero, suc, ◌+◌, ◌*◌, ◌≤◌, ◌<◌}
use native.Mathlib.Nat.{suc-mul}
use native.Mathlib.Omega.{arith}
use borrow.Author.Tests.{ltb-true, ltb-false}
use lib.Dec.{eqb, ltb}
use lib.ListN.{length, drop, get_or, replicate, length-append, length-replicate, length-drop}
use Rattle.rules.specs.declared.Neighbor.{Neighbor}
use Rattle.rules.specs.Loops.{turns, each}
use Rattle.rules.specs.Lists.{node_of}
use Rattle.rules.specs.Descent.{Renewed, renew, renew_all, is_visited, list_at, new_of, old_of, shuffle, kept_new, members_back}
use Rattle.shuffles.proofs.Laws.{length-shuffle, drawn-few}
use Rattle.renews.specs.Renews.{renewed_to}
use Rattle.renews.proofs.All.{grown_low, grown_last, renewed-long}
use Rattle.descent_kept.proofs.Lists.{Lists}

-- ---- one list is split, shuffled and cut

split_few : (n i : ℕ) (flags : List Bool) (es : List Neighbor) → length (new_of n i flags es) + length (old_of n i flags es) ≤ length es
unfolding new_of old_of
split_few n i flags [] = omega arith
split_few n i flags (e ∷ es) = go (eqb (node_of e) n) (is_visited n i (node_of e) flags) (split_few n i flags es)
  where
    go : (a b : Bool) → length (new_of n i flags es) + length (old_of n i flags es) ≤ length es
        → length (cond (not a && b) (node_of e ∷ new_of n i flags es) (new_of n i flags es)) + length (cond (not a && not b) (node_of e ∷ old_of n i flags es) (old_of n i flags es)) ≤ suc (length es)
    go true b h = omega arith
    go false true h = omega arith
    go false false h = omega arith

kept-few : (draws : List ℕ) (s at : ℕ) (xs : List ℕ) → length (kept_new draws s at xs) ≤ length xs
unfolding kept_new
kept-few draws s at xs = go (ltb s (length xs))
  where
    go : (b : Bool) → length (cond b (drop s (shuffle draws at xs)) xs) ≤ length xs
    go true = let a = length-drop s (shuffle draws at xs) in let b = length-shuffle draws at xs in omega arith
    go false = omega arith

-- ---- all of them

-- lists that grow at their end by one each turn
grown_at : (ls : ℕ → List (List ℕ)) (y : ℕ → List ℕ) → ((i : ℕ) → length (ls i) ≡ i) → ((i : ℕ) → ls (suc i) ≡ ls i ++ (y i ∷ [])) → (i j : ℕ) → j < i → get_or (ls i) j [] ≡ y j
grown_at ls y long more zero j h = absurd (omega arith)
grown_at ls y long more (suc i) j h = ap (λ (l : List (List ℕ)). get_or l j []) (more i) ∙ go (ltb j i) refl (λ c. grown_at ls y long more i j c)
  where
    go : (b : Bool) → ltb j i ≡ b → (j < i → get_or (ls i) j [] ≡ y j) → get_or (ls i ++ (y i ∷ [])) j [] ≡ y j
    go true b before = let c = ltb-true j i b in grown_low (ls i) i (long i) (y i) j c ∙ before c
    go false b before =
        let c = ltb-false j i b in
        let e : j ≡ i = omega arith in
        rw e (grown_last (ls i) i (long i) (y i))

-- each node's number once per member, of the first m nodes
abbrev pub back_to : List (List ℕ) → ℕ → List ℕ
back_to members m = each (λ (i : ℕ). replicate (length (get_or members i [])) i) m

back_more : (members : List (List ℕ)) (m : ℕ) → length (back_to members (suc m)) ≡ length (back_to members m) + length (get_or members m [])
unfolding each
back_more members m =
    length-append (back_to members m) (replicate (length (get_or members m [])) m)
    ∙ ap (λ (c : ℕ). length (back_to members m) + c) (length-replicate (length (get_or members m [])) m)

module _ (draws : List ℕ) (n k s : ℕ) (flags : List Bool) (lists : List (List Neighbor)) (L : Lists n k lists) where
  abbrev to : ℕ → Renewed
  to i = renewed_to draws n s flags lists i

  abbrev found : ℕ → List ℕ
  found i = new_of n i flags (list_at lists i)

  news-at : (j : ℕ) → j < n → get_or (to n).news j [] ≡ kept_new draws s (to j).at (found j)
  unfolding turns renew
  news-at j h = grown_at (λ (i : ℕ). (to i).news) (λ (i : ℕ). kept_new draws s (to i).at (found i)) (λ (i : ℕ). (renewed-long draws n s flags lists i).news) (λ (i : ℕ). refl) n j h

  olds-at : (j : ℕ) → j < n → get_or (to n).olds j [] ≡ old_of n j flags (list_at lists j)
  unfolding turns renew
  olds-at j h = grown_at (λ (i : ℕ). (to i).olds) (λ (i : ℕ). old_of n i flags (list_at lists i)) (λ (i : ℕ). (renewed-long draws n s flags lists i).olds) (λ (i : ℕ). refl) n j h

  -- the members of the first m nodes, and the draws used for them
  few-to : (m : ℕ) → m ≤ n → ((to m).at + length (back_to (to n).olds m) ≤ m * k) × (length (back_to (to n).news m) ≤ m * k)
  unfolding turns renew each
  few-to zero h = (omega arith, omega arith)
  few-to (suc m) h =
      let r = few-to m (omega arith) in
      let a = r.0 in
      let b = r.1 in
      let e = suc-mul m k in
      let both = split_few n m flags (list_at lists m) in
      let long = L.long m h in
      let d = drawn-few s (to m).at (found m) in
      let c = kept-few draws s (to m).at (found m) in
      let o = back_more (to n).olds m in
      let w = back_more (to n).news m in
      let oe = ap length (olds-at m h) in
      let we = ap length (news-at m h) in
      (rw e (omega arith), rw e (omega arith))

  abbrev all : Renewed
  all = renew_all draws n s flags lists

  -- draws for the reversed-old list, behind those for the new lists
  pub olds-few : (w : ℕ) → all.at + length (members_back n all.olds w) ≤ n * k
  unfolding renew_all members_back
  olds-few w = (few-to n (omega arith)).0

  pub news-few : (w : ℕ) → length (members_back n all.news w) ≤ n * k
  unfolding renew_all members_back
  news-few w = (few-to n (omega arith)).1
