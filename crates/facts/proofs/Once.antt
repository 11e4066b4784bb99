-- Step 3 and an offer keep a row without a node twice, and step 2 begins with none. Assumes nothing.
use mathlib.Core.Path.{◌≡◌, refl, sym, ap, ◌∙◌, subst}
use mathlib.Core.Bool.{Bool, true, false, cond, not, ◌&&◌, ◌||◌}
use mathlib.Core.List.{List, [], ◌∷◌, ◌++◌, map, append-nil, append_assoc}
use Prim.Native.Nat.{ℕ, suc, ◌-◌, ◌≤◌, zero-le}
use native.Mathlib.Omega.{arith}
use lib.Dec.{leb, ltb, eqb}
use lib.ListN.{length, take, drop, replicate, length-append, length-drop, length-replicate, take-append-drop}
use lib.Ieee.{Float}
use borrow.Author.Tests.{ltb-true, ltb-false, eqb-true}
use Rattle.rules.specs.declared.Neighbor.{Neighbor}
use Rattle.rules.specs.Loops.{through, any_of, has}
use Rattle.rules.specs.Lists.{node_of, nodes_of, sort}
use Rattle.rules.specs.Rows.{empty_slot, live}
use Rattle.rules.specs.Calls.{BuildSizes}
use Rattle.rules.specs.Build.{Between, entry, exact_list, taking, hop, two_hops, candidates, occludes, keep, choose, row_of, pruned, mark_next, rewritten, at_full, offered}
use Rattle.lists.specs.All.{All}
use Rattle.lists.proofs.Perm.{perm_map}
use Rattle.lists.proofs.Laws.{sort-is_perm}
use Rattle.descent_kept.proofs.Lists.{through_keeps}
use Rattle.offers.proofs.Laws.{live_full}
use Rattle.facts.specs.Different.{different}
use Rattle.facts.proofs.Different.{different_perm, different-last, different_without, different-front, nodes-append}
use Rattle.facts.proofs.Exact.{nodes-entries}
use Rattle.facts.proofs.Parts.{live-marked, live_empty, live-append, live-front}

abbrev pub Once : List Neighbor → Type 0
Once es = different (nodes_of es) ≡ true

-- ---- entries one behind the other

once-front : (xs ys : List Neighbor) → Once (xs ++ ys) → Once xs
once-front xs ys h = different-front (nodes_of xs) (nodes_of ys) (ap different (sym (nodes-append xs ys)) ∙ h)

once-live : (es : List Neighbor) → Once es → Once (live es)
once-live es h =
    subst Once (sym (live-front es)) (once-front (take (length (live es)) es) (drop (length (live es)) es) (subst Once (sym (take-append-drop (length (live es)) es)) h))

once_last : (es : List Neighbor) (e : Neighbor) → has (node_of e) (nodes_of es) ≡ false → Once es → Once (es ++ (e ∷ []))
unfolding nodes_of
once_last es e h k = ap different (nodes-append es (e ∷ [])) ∙ different-last (node_of e) (nodes_of es) h k

once-sort : (es : List Neighbor) → Once es → Once (sort es)
unfolding nodes_of
once-sort es h = sym (different_perm (perm_map node_of (sort-is_perm es))) ∙ h

-- ---- a fact that every turn keeps, whatever its turn is for

module _ {A S : Type 0} (P : S → Type 0) (f : A → S → S) (k : (x : A) (s : S) → P s → P (f x s)) where
  units : (xs : List A) → All (λ (x : A). Unit {0}) xs
  units [] = tt
  units (x ∷ xs) = (tt, units xs)

  keeps : (xs : List A) (s : S) → P s → P (through f xs s)
  keeps xs s p = through_keeps P (λ (x : A). Unit {0}) f (λ (x : A) (s : S) (u : Unit {0}) (p : P s). k x s p) xs s (units xs) p

-- ---- step 2: what is taken

abbrev Apart : List ℕ → Type 0
Apart taken = different taken ≡ true

module _ (lists : ℕ → List ℕ) (limit q : ℕ) where
  apart-taking : (m : ℕ) (taken : List ℕ) → Apart taken → Apart (taking m taken)
  unfolding taking
  apart-taking m taken h = go (has m taken) refl
    where
      go : (b : Bool) → has m taken ≡ b → Apart (cond b taken (taken ++ (m ∷ [])))
      go true e = h
      go false e = different-last m taken e h

  apart-hop : (m : ℕ) (taken : List ℕ) → Apart taken → Apart (hop limit q m taken)
  unfolding hop
  apart-hop m taken h = go (leb limit (length taken) || eqb m q)
    where
      go : (b : Bool) → Apart (cond b taken (taking m taken))
      go true = h
      go false = apart-taking m taken h

  different-candidates : Apart (candidates lists limit q)
  unfolding candidates two_hops different
  different-candidates =
      keeps Apart taking apart-taking (lists q) (two_hops lists limit q)
      (keeps Apart (λ (member : ℕ) (taken : List ℕ). through (hop limit q) (lists member) taken)
      (λ (m : ℕ) (taken : List ℕ) (h : Apart taken). keeps Apart (hop limit q) apart-hop (lists m) taken h) (lists q) [] refl)

-- ---- step 3: the chosen

module _ (f : Neighbor → Neighbor → Bool) (k : ℕ) where
  once-through : (es kept : List Neighbor) → Once (kept ++ es) → Once (through (keep f k) es kept)
  unfolding through keep nodes_of
  once-through [] kept h = subst Once (append-nil kept) h
  once-through (e ∷ es) kept h = once-through es (keep f k e kept) (go (ltb (length kept) k && not (any_of (f e) kept)))
    where
      go : (b : Bool) → Once (cond b (kept ++ (e ∷ [])) kept ++ es)
      go true = subst Once (sym (append_assoc kept (e ∷ []) es)) h
      go false =
          ap different (nodes-append kept es)
          ∙ different_without (nodes_of kept) (node_of e) (nodes_of es) (ap different (sym (nodes-append kept (e ∷ es))) ∙ h)

  once-choose : (es : List Neighbor) → Once es → Once (choose f k es)
  unfolding choose
  once-choose es h = once-through es [] h

  few-keep : (e : Neighbor) (kept : List Neighbor) → length kept ≤ k → length (keep f k e kept) ≤ k
  unfolding keep
  few-keep e kept h = go (ltb (length kept) k) refl (not (any_of (f e) kept))
    where
      go : (a : Bool) → ltb (length kept) k ≡ a → (b : Bool) → length (cond (a && b) (kept ++ (e ∷ [])) kept) ≤ k
      go true t true = let l = ltb-true (length kept) k t in rw (length-append kept (e ∷ [])) (omega arith)
      go true t false = h
      go false t b = h

  few-choose : (es : List Neighbor) → length (choose f k es) ≤ k
  unfolding choose
  few-choose es = keeps (λ (kept : List Neighbor). length kept ≤ k) (keep f k) few-keep es [] zero-le

-- ---- steps 2 to 4

module _ (d : Between) (n : ℕ) (p : BuildSizes) where
  pub length-pruned : (q : ℕ) → length (pruned d n p q) ≡ p.index_size
  unfolding pruned row_of
  length-pruned q =
      let kept = choose (occludes d p.threshold false) p.index_size (sort (map (entry d q) (candidates (exact_list d n p.init_k) p.neighbor_neighbor_size q))) in
      let few = few-choose (occludes d p.threshold false) p.index_size (sort (map (entry d q) (candidates (exact_list d n p.init_k) p.neighbor_neighbor_size q))) in
      let m = length-replicate (p.index_size - length kept) (empty_slot n) in
      length-append kept (replicate (p.index_size - length kept) (empty_slot n)) ∙ omega arith

  pub once-pruned : (q : ℕ) → Once (live (pruned d n p q))
  unfolding pruned row_of
  once-pruned q =
      let cs = candidates (exact_list d n p.init_k) p.neighbor_neighbor_size q in
      let es = map (entry d q) cs in
      let f = occludes d p.threshold false in
      let kept = choose f p.index_size (sort es) in
      let first : Once es = ap different (nodes-entries d q cs) ∙ different-candidates (exact_list d n p.init_k) p.neighbor_neighbor_size q in
      subst Once (sym (live-append kept (replicate (p.index_size - length kept) (empty_slot n)) (live_empty n (p.index_size - length kept))))
      (once-live kept (once-choose f p.index_size (sort es) (once-sort es first)))

-- ---- an offer to a row

-- "write the chosen from the row's start, and mark the next slot, if any, empty in distance only"
length_marked : (es : List Neighbor) → length (mark_next es) ≡ length es
unfolding mark_next
length_marked [] = refl
length_marked (e ∷ es) = refl

module _ (chosen row : List Neighbor) where
  length-rewritten : length chosen ≤ length row → length (rewritten chosen row) ≡ length row
  unfolding rewritten
  length-rewritten h =
      let m = length_marked (drop (length chosen) row) in
      let r = length-drop (length chosen) row in
      length-append chosen (mark_next (drop (length chosen) row)) ∙ omega arith

  once-rewritten : Once chosen → Once (live (rewritten chosen row))
  unfolding rewritten
  once-rewritten h =
      subst Once (sym (live-append chosen (mark_next (drop (length chosen) row)) (live-marked (drop (length chosen) row)))) (once-live chosen h)

module _ (d : Between) (t : Float) (w : ℕ) (e : Neighbor) (row : List Neighbor) (long : length row ≡ w) where
  abbrev pool : List Neighbor
  pool = sort (row ++ (e ∷ []))

  pub length-offered : length (offered d t w e row) ≡ w
  unfolding offered at_full
  length-offered = go (ltb (length (live row)) w) (eqb (suc (length (live row))) w) refl
    where
      go : (a b : Bool) → eqb (suc (length (live row))) w ≡ b
          → length (cond a (cond b (rewritten (live row ++ (e ∷ [])) row) row) (rewritten (choose (occludes d t true) w pool) row)) ≡ w
      go true true q =
          let m = eqb-true (suc (length (live row))) w q in
          let l = length-append (live row) (e ∷ []) in
          length-rewritten (live row ++ (e ∷ [])) row (omega arith) ∙ long
      go true false q = long
      go false b q = let m = few-choose (occludes d t true) w pool in length-rewritten (choose (occludes d t true) w pool) row (omega arith) ∙ long

  pub once-offered : has (node_of e) (nodes_of (live row)) ≡ false → Once (live row) → Once (live (offered d t w e row))
  unfolding offered at_full
  once-offered h k = go (ltb (length (live row)) w) refl (eqb (suc (length (live row))) w)
    where
      go : (a : Bool) → ltb (length (live row)) w ≡ a → (b : Bool)
          → Once (live (cond a (cond b (rewritten (live row ++ (e ∷ [])) row) row) (rewritten (choose (occludes d t true) w pool) row)))
      go true q true = once-rewritten (live row ++ (e ∷ [])) row (once_last (live row) e h k)
      go true q false = k
      go false q b =
          let l = ltb-false (length (live row)) w q in
          let full : live row ≡ row = live_full row (omega arith) in
          let more : Once (row ++ (e ∷ [])) = once_last row e (ap (λ (es : List Neighbor). has (node_of e) (nodes_of es)) (sym full) ∙ h) (subst Once full k) in
          once-rewritten (choose (occludes d t true) w pool) row (once-choose (occludes d t true) w pool (once-sort (row ++ (e ∷ [])) more))
