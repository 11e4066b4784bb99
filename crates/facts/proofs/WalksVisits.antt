-- The entries of a visited row, and of the roots: each a node that was not seen before, with its distance, in order. Assumes nothing.
use mathlib.Core.Path.{◌≡◌, refl, sym, ap, ◌∙◌}
use mathlib.Core.Bool.{Bool, true, false, cond, ◌||◌, or_assoc}
use mathlib.Core.List.{List, [], ◌∷◌, ◌++◌}
use Prim.Native.Nat.{ℕ, suc, ◌<◌}
use native.Mathlib.Omega.{arith}
use lib.Dec.{eqb}
use lib.ListN.{length}
use lib.Ieee.{Float}
use Rattle.std.specs.Prelude.{Some, None}
use Rattle.rules.specs.Answers.{Distance}
use Rattle.rules.specs.declared.Neighbor.{Neighbor}
use Rattle.rules.specs.Loops.{has}
use Rattle.rules.specs.Lists.{neighbor, node_of, nodes_of, insert}
use Rattle.rules.specs.Search.{Going, on, unfit_at, Found, and_then, works_out, mark, is_seen, visit, visits, roots_found}
use Rattle.lists.specs.All.{All}
use Rattle.lists.specs.Ascending.{Perm, same, chain, Ascending}
use Rattle.lists.proofs.Perm.{perm_first, perm_front, perm_map}
use Rattle.lists.proofs.Plain.{all_perm}
use Rattle.lists.proofs.Laws.{insert-is_perm, ascending-insert}
use Rattle.expand.specs.Queue.{ones, AllBelow}
use Rattle.expand.proofs.Near.{Answers}
use Rattle.expand.proofs.Sound.{ones-mark, mark-long, Whenever, whenever_then}
use Rattle.walk.proofs.Marks.{seen-mark}
use Rattle.facts.specs.Different.{different}
use Rattle.facts.specs.Walks.{Measured}
use Rattle.rules.proofs.Tests.{neither}
use Rattle.facts.proofs.Different.{different-new, different_perm}
use Rattle.facts.proofs.WalksLists.{has-insert}
use Rattle.facts.proofs.WalksBest.{held}

-- what is found in a row, where `before` was seen
pub record Fresh (apart : ℕ → Distance) (n : ℕ) (before : List ℕ) (f : Found) : Type 0 where
  pub long : length f.seen ≡ n
  pub worked : f.worked ≡ ones f.seen
  pub measured : All (Measured apart n) f.entries
  pub ascends : Ascending f.entries
  pub unseen : All (λ (v : ℕ). is_seen v before ≡ false) (nodes_of f.entries)
  pub others : different (nodes_of f.entries) ≡ true
  pub seen : (v : ℕ) → v < n → is_seen v f.seen ≡ (has v (nodes_of f.entries) || is_seen v before)

-- the entries of the nodes vs, put in order among es
pub record Sorted (apart : ℕ → Distance) (n : ℕ) (vs : List ℕ) (es fs : List Neighbor) : Type 0 where
  pub measured : All (Measured apart n) fs
  pub ascends : Ascending fs
  pub perm : Perm (vs ++ nodes_of es) (nodes_of fs)

whenever_weaker : {A : Type 0} (P Q : A → Type 0) → ((a : A) → P a → Q a) → (g : Going A) → Whenever P g → Whenever Q g
unfolding Whenever
whenever_weaker P Q f (on a) h = f a h
whenever_weaker P Q f (unfit_at v) h = tt

module _ (apart : ℕ → Distance) (n : ℕ) (fine : Answers apart) where
  measured-insert : (v : ℕ) (x : Float) (es : List Neighbor) → v < n → apart v ≡ Some x → All (Measured apart n) es → All (Measured apart n) (insert (neighbor v x) es)
  measured-insert v x es b q M = all_perm (Measured apart n) (insert-is_perm (neighbor v x) es) (record { below = b; distance = q }, M)

  ascends-insert : (v : ℕ) (x : Float) (es : List Neighbor) → apart v ≡ Some x → All (Measured apart n) es → Ascending es → Ascending (insert (neighbor v x) es)
  ascends-insert v x es q M A = ascending-insert (neighbor v x) es (fine v x q) (held apart n fine es M) A

  -- ---- a row

  fresh-more : (before : List ℕ) (v : ℕ) (x : Float) (f : Found) → v < n → apart v ≡ Some x → is_seen v f.seen ≡ false → Fresh apart n before f
      → Fresh apart n before (record { seen = mark v f.seen; entries = insert (neighbor v x) f.entries; worked = suc f.worked })
  unfolding nodes_of
  fresh-more before v x f b q e F =
      let l = F.long in
      let w = F.worked in
      let one = ones-mark v f.seen (omega arith) e in
      let p = insert-is_perm (neighbor v x) f.entries in
      let new = neither (has v (nodes_of f.entries)) (is_seen v before) (sym (F.seen v b) ∙ e) in
      record {
        long = mark-long v f.seen ∙ l;
        worked = omega arith;
        measured = measured-insert v x f.entries b q F.measured;
        ascends = ascends-insert v x f.entries q F.measured F.ascends;
        unseen = all_perm (λ (u : ℕ). is_seen u before ≡ false) (perm_map node_of p) (new.1, F.unseen);
        others = sym (different_perm (perm_map node_of p)) ∙ different-new v (nodes_of f.entries) new.0 F.others;
        seen = λ (u : ℕ) h.
            seen-mark u v f.seen (omega arith)
            ∙ ap (λ (t : Bool). eqb u v || t) (F.seen u h)
            ∙ sym (or_assoc (eqb u v) (has u (nodes_of f.entries)) (is_seen u before))
            ∙ ap (λ (t : Bool). t || is_seen u before) (sym (has-insert u (neighbor v x) f.entries));
      }

  fresh-visit : (before : List ℕ) (v : ℕ) (f : Found) → v < n → Fresh apart n before f → Whenever (Fresh apart n before) (visit apart v f)
  unfolding visit Whenever and_then works_out
  fresh-visit before v f b F = go (is_seen v f.seen) (apart v) refl refl
    where
      go : (s : Bool) (d : Distance) → is_seen v f.seen ≡ s → apart v ≡ d
          → Whenever (Fresh apart n before) (cond s (on f) (and_then (works_out apart v f.entries d) (λ (es : List Neighbor). on (record { seen = mark v f.seen; entries = es; worked = suc f.worked }))))
      go true d e q = F
      go false (Some x) e q = fresh-more before v x f b q e F
      go false None e q = tt

  pub fresh-visits : (before : List ℕ) (vs : List ℕ) (f : Found) → AllBelow n vs → Fresh apart n before f → Whenever (Fresh apart n before) (visits apart vs f)
  unfolding visits AllBelow Whenever
  fresh-visits before [] f b F = F
  fresh-visits before (v ∷ vs) f b F =
      whenever_then (Fresh apart n before) (Fresh apart n before) (visit apart v f) (visits apart vs) (fresh-visit before v f b.0 F) (λ (g : Found) G. fresh-visits before vs g b.1 G)

  -- ---- the roots

  sorted_more : (v : ℕ) (x : Float) (vs : List ℕ) (es fs : List Neighbor) → Sorted apart n vs (insert (neighbor v x) es) fs → Sorted apart n (v ∷ vs) es fs
  unfolding nodes_of
  sorted_more v x vs es fs S =
      record {
        measured = S.measured;
        ascends = S.ascends;
        perm = chain (perm_first v vs (nodes_of es)) (chain (perm_front vs (perm_map node_of (insert-is_perm (neighbor v x) es))) S.perm);
      }

  pub sorted_roots : (vs : List ℕ) (es : List Neighbor) → AllBelow n vs → All (Measured apart n) es → Ascending es → Whenever (Sorted apart n vs es) (roots_found apart vs es)
  unfolding roots_found Whenever and_then works_out AllBelow
  sorted_roots [] es b M A = record { measured = M; ascends = A; perm = same }
  sorted_roots (v ∷ vs) es b M A = go (apart v) refl (λ (fs : List Neighbor) N B. sorted_roots vs fs b.1 N B)
    where
      go : (d : Distance) → apart v ≡ d → ((fs : List Neighbor) → All (Measured apart n) fs → Ascending fs → Whenever (Sorted apart n vs fs) (roots_found apart vs fs))
          → Whenever (Sorted apart n (v ∷ vs) es) (and_then (works_out apart v es d) (roots_found apart vs))
      go (Some x) q ih =
          whenever_weaker (Sorted apart n vs (insert (neighbor v x) es)) (Sorted apart n (v ∷ vs) es) (sorted_more v x vs es) (roots_found apart vs (insert (neighbor v x) es))
          (ih (insert (neighbor v x) es) (measured-insert v x es b.0 q M) (ascends-insert v x es q M A))
      go None q ih = tt
