-- What begin writes is well formed, and what an iteration writes of a well-formed descent. Assumes nothing.
use mathlib.Core.Path.{◌≡◌, refl, sym, ◌∙◌, subst}
use mathlib.Core.Bool.{Bool, true, false}
use mathlib.Core.List.{List, [], ◌∷◌}
use Prim.Native.Nat.{ℕ, zero, suc, ◌+◌, ◌*◌, ◌≤◌, ◌<◌}
use native.Mathlib.Omega.{arith}
use lib.ListN.{length, get_or, replicate, length-replicate, length-set, get_or-replicate}
use lib.Ieee.{binary32, to_bits, of_bits}
use lib.Dec.{eqb}
use borrow.Author.Tests.{eq-eqb}
use Rattle.rules.specs.declared.Neighbor.{Neighbor}
use Rattle.rules.specs.Loops.{each, through}
use Rattle.rules.specs.Distance.{fit}
use Rattle.rules.specs.Build.{Between}
use Rattle.rules.specs.Rows.{empty_slot, empty_distance}
use Rattle.rules.specs.Offers.{unfilled, empty_bits, entry_formed, entries_formed, list_formed}
use Rattle.rules.specs.Descent.{Descent, begin_context, begun, Met, meet_all, unvisit, renew_all, unvisit_all, context_of, renewed, iterated}
use Rattle.rules.proofs.Tests.{together}
use Rattle.rules.proofs.Loops.{length-ones}
use Rattle.neighbor.specs.Holdable.{Holdable}
use Rattle.neighbor.proofs.Bits.{holdable_empty}
use Rattle.neighbor.proofs.Order.{irreflexive}
use Rattle.lists.specs.Ascending.{AllHoldable, NoneBefore, Ascending}
use Rattle.lists.specs.All.{All}
use Rattle.lists.proofs.Plain.{all-at, all_of, all_weaker}
use Rattle.steps.proofs.Formed.{of_ascending, Kept}
use Rattle.encoded.proofs.Rows.{all_ones}
use Rattle.descent_kept.specs.Formed.{Each, Few, Below, Formed}
use Rattle.descent_kept.proofs.Lists.{through_keeps, turns_keeps, Lists, Meeting, all_meet}
use Rattle.descent_kept.proofs.Contexts.{Good, good_begin, good_context, few-each, below_each, all-renewed}

-- ---- unfilled lists

module _ (n : ℕ) where
  abbrev e : Neighbor
  e = empty_slot n

  none_before : (k : ℕ) → NoneBefore (empty_slot n) (replicate k (empty_slot n))
  none_before zero = tt
  none_before (suc k) = (irreflexive e holdable_empty, none_before k)

  ascends : (k : ℕ) → Ascending (replicate k (empty_slot n))
  ascends zero = tt
  ascends (suc k) = (none_before k, ascends k)

  holdables : (k : ℕ) → AllHoldable (replicate k (empty_slot n))
  holdables zero = tt
  holdables (suc k) = (holdable_empty, holdables k)

  empty_bits_lem : eqb (to_bits binary32 empty_distance) empty_bits ≡ true
  unfolding of_bits to_bits
  empty_bits_lem = refl

  empty_formed : entry_formed n (empty_slot n) ≡ true
  unfolding entry_formed
  empty_formed = rw (eq-eqb n n refl) empty_bits_lem

  empties_formed : (k : ℕ) → entries_formed n (replicate k (empty_slot n)) ≡ true
  unfolding entries_formed
  empties_formed zero = refl
  empties_formed (suc k) = together _ _ empty_formed (empties_formed k)

  pub kept-unfilled : (k : ℕ) → Kept n (unfilled n k)
  unfolding unfilled list_formed
  kept-unfilled k = record { holdable = holdables k; formed = together _ _ (of_ascending (replicate k e) (ascends k)) (empties_formed k) }

all_replicate : {A : Type 0} (P : A → Type 0) (m : ℕ) (x : A) → P x → All P (replicate m x)
all_replicate P zero x p = tt
all_replicate P (suc m) x p = (p, all_replicate P m x p)

-- ---- begin

pub begun-formed : (draws : List ℕ) (n k s : ℕ) → 0 < n → s ≤ 64 → Formed n k (begun draws n k s)
unfolding begun unfilled
begun-formed draws n k s some few =
    let G = all_ones (begin_context draws n s) (Each (Good n some)) n (λ (i : ℕ) (h : i < n). good_begin n some draws s i few) in
    let cs = each (λ (i : ℕ). begin_context draws n s i ∷ []) n in
    record {
      fitting =
          record {
            nodes = length-replicate n (unfilled n k);
            rows = all_replicate (λ (l : List Neighbor). length l ≡ k) n (unfilled n k) (length-replicate k (empty_slot n));
            contexts = length-ones (begin_context draws n s) n;
            few = all_weaker (Each (Good n some)) (Each Few) (few-each n some) cs G;
            pairs = length-replicate (n * n) false;
          };
      lists = λ (w : ℕ) (wn : w < n). subst (Kept n) (sym (get_or-replicate n w (unfilled n k) [] wn)) (kept-unfilled n k);
      members = all_weaker (Each (Good n some)) (Each (Below n)) (below_each n some) cs G;
    }

-- ---- an iteration

unvisit-long : (n : ℕ) (news : List (List ℕ)) (visited : List Bool) → length (unvisit_all n news visited) ≡ length visited
unfolding unvisit_all unvisit
unvisit-long n news visited =
    turns_keeps (λ (v : List Bool). length v ≡ length visited) (λ (i : ℕ) (v : List Bool). through (unvisit n i) (get_or news i []) v) n
    (λ (i : ℕ) (v : List Bool) (h : i < n) (p : length v ≡ length visited). row i (get_or news i []) v p) visited refl
  where
    row : (i : ℕ) (xs : List ℕ) (v : List Bool) → length v ≡ length visited → length (through (unvisit n i) xs v) ≡ length visited
    row i xs v p =
        through_keeps (λ (y : List Bool). length y ≡ length visited) (λ (x : ℕ). Unit {0}) (unvisit n i)
        (λ (j : ℕ) (y : List Bool) (u : Unit {0}) (q : length y ≡ length visited). length-set y (i * n + j) false ∙ q) xs v (units xs) p
      where
        units : (ys : List ℕ) → All (λ (x : ℕ). Unit {0}) ys
        units [] = tt
        units (y ∷ ys) = (tt, units ys)

module _ (d : Between) (n k : ℕ) (some : 1 ≤ k) (far : (u v : ℕ) → Holdable (d u v)) (near : (u v : ℕ) → fit (d u v) ≡ true) where
  -- all pairs of a well-formed descent's contexts have met
  pub all-met : (x : Descent) → Formed n k x → Meeting d n k some far near (meet_all d n k x.contexts (record { lists = x.lists; visited = x.visited; cost = 0 }))
  all-met x F =
      let sz = F.fitting.nodes in
      let L : Lists n k x.lists =
      record {
        nodes = F.fitting.nodes;
        long = λ (w : ℕ) (wn : w < n). all-at (λ (l : List Neighbor). length l ≡ k) x.lists w [] F.fitting.rows (omega arith);
        kept = F.lists;
      } in
      all_meet d n k some far near x.contexts (record { lists = x.lists; visited = x.visited; cost = 0 }) F.members (record { lists = L; pairs = F.fitting.pairs })

module _ (d : Between) (n k s : ℕ) (nodes : 0 < n) (some : 1 ≤ k) (most : k ≤ 64) (few : s ≤ 64) (far : (u v : ℕ) → Holdable (d u v)) (near : (u v : ℕ) → fit (d u v) ≡ true) where
  renewed-formed : (draws : List ℕ) (m : Met) → Meeting d n k some far near m → Formed n k (renewed draws n s m).descent
  unfolding renewed
  renewed-formed draws m M =
      let r = renew_all draws n s m.visited m.lists in
      let R = all-renewed n nodes draws k s m.visited m.lists most M.lists in
      let G = all_ones (context_of draws n s r) (Each (Good n nodes)) n (λ (w : ℕ) (h : w < n). good_context n nodes draws s r w few R) in
      let cs = each (λ (w : ℕ). context_of draws n s r w ∷ []) n in
      let sz = M.lists.nodes in
      record {
        fitting =
            record {
              nodes = M.lists.nodes;
              rows = all_of (λ (l : List Neighbor). length l ≡ k) m.lists [] (λ (w : ℕ) (h : w < length m.lists). M.lists.long w (omega arith));
              contexts = length-ones (context_of draws n s r) n;
              few = all_weaker (Each (Good n nodes)) (Each Few) (few-each n nodes) cs G;
              pairs = unvisit-long n r.news m.visited ∙ M.pairs;
            };
        lists = M.lists.kept;
        members = all_weaker (Each (Good n nodes)) (Each (Below n)) (below_each n nodes) cs G;
      }

  pub iterated-formed : (draws : List ℕ) (x : Descent) → Formed n k x → Formed n k (iterated d draws n k s x).descent
  unfolding iterated
  iterated-formed draws x F = renewed-formed draws (meet_all d n k x.contexts (record { lists = x.lists; visited = x.visited; cost = 0 })) (all-met d n k some far near x F)
