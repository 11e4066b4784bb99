-- The first roots found enter the best set and the queue. Assumes nothing.
use mathlib.Core.Path.{◌≡◌, refl, sym, ap, ◌∙◌}
use mathlib.Core.List.{List, [], ◌∷◌, ◌++◌}
use Prim.Native.Nat.{ℕ, ◌+◌, ◌≤◌, ◌<◌}
use native.Mathlib.Numerals.{add-one}
use native.Mathlib.Omega.{arith}
use lib.ListN.{take, drop, get_or, set, length-set}
use lib.Seq.{take-suc, get_or-take, get_or-drop, get_or-set_same, take-set-le}
use lib.Ieee.{Float, nan}
use Rattle.rules.specs.declared.Neighbor.{Neighbor}
use Rattle.rules.specs.Lists.{neighbor, entries}
use Rattle.lists.proofs.Slices.{entries-suc, entries-same, nodes_of-entries}
use Rattle.buffers.specs.Area.{area}
use Rattle.expand.specs.Areas.{best_at, found_at, queue_in, best_in, found_in, Room, FoundKept}
use Rattle.buffers.proofs.Places.{length-area, set-area, set-low, set_high}
use Rattle.expand.proofs.Areas.{queue_grown, queue_stored, found-kept, found-kept-on}
use Rattle.walk.specs.Walks.{Entered}

-- ---- the first found enter the best set and the queue

pub record Entering (n : ℕ) (us₀ : List ℕ) (fs₀ : List Float) (us : List ℕ) (fs : List Float) (i : ℕ) : Type 0 where
  pub best : best_in n us fs i ≡ found_in n us₀ fs₀ i
  pub queue : take i (queue_in n us) ≡ take i (area (found_at n) 64 us₀)
  pub kept : FoundKept n us₀ fs₀ us fs

pub entering_none : (n : ℕ) (us : List ℕ) (fs : List Float) → Entering n us fs us fs 0
unfolding entries
entering_none n us fs = record { best = refl; queue = refl; kept = found-kept }

-- a store in the best set
best_stored : (n : ℕ) (us : List ℕ) (fs : List Float) (i v : ℕ) (x : Float) → i < 64 → FoundKept n us fs (set us (n + n + i) v) (set fs (n + n + i) x)
best_stored n us fs i v x h =
    record {
      seen = take-set-le n us (n + n + i) v (omega arith);
      nodes = set-low us (n + n + i) v (found_at n) 64 (omega arith);
      dists = set-low fs (n + n + i) x (found_at n) 64 (omega arith);
      words = length-set us (n + n + i) v;
      floats = length-set fs (n + n + i) x;
    }

module _ {n : ℕ} {us₀ : List ℕ} {fs₀ : List Float} {us : List ℕ} {fs : List Float} {i : ℕ} (room : Room n us₀ fs₀) (inv : Entering n us₀ fs₀ us fs i) (h : i < 64) (k : i < n) where
  -- what the code reads
  abbrev node_read : ℕ
  node_read = get_or us (n + n + 64 + i) 0

  abbrev dist_read : Float
  dist_read = get_or fs (n + n + 64 + i) nan

  abbrev us₁ : List ℕ
  us₁ = set us (n + n + i) node_read

  abbrev fs₁ : List Float
  fs₁ = set fs (n + n + i) dist_read

  node_is : node_read ≡ get_or (area (found_at n) 64 us₀) i 0
  node_is = sym (get_or-drop (found_at n) us i 0) ∙ sym (get_or-take 64 (drop (found_at n) us) i 0 h) ∙ ap (λ (l : List ℕ). get_or l i 0) inv.kept.nodes

  dist_is : dist_read ≡ get_or (area (found_at n) 64 fs₀) i nan
  dist_is = sym (get_or-drop (found_at n) fs i nan) ∙ sym (get_or-take 64 (drop (found_at n) fs) i nan h) ∙ ap (λ (l : List Float). get_or l i nan) inv.kept.dists

  pub entering_more : Entering n us₀ fs₀ (set us₁ (n + i) node_read) fs₁ (i + 1)
  entering_more =
      let w = room.words in
      let x = room.floats in
      let wl = inv.kept.words in
      let fl = inv.kept.floats in
      let bn = length-area (best_at n) 64 us (omega arith) in
      let bd = length-area (best_at n) 64 fs (omega arith) in
      let fn = length-area (found_at n) 64 us₀ (omega arith) in
      let fd = length-area (found_at n) 64 fs₀ (omega arith) in
      let nodes : area (best_at n) 64 (set us₁ (n + i) node_read) ≡ set (area (best_at n) 64 us) i node_read =
      set-low us₁ (n + i) node_read (best_at n) 64 (omega arith) ∙ set-area us (n + n + i) node_read (best_at n) 64 i refl h in
      let dists : area (best_at n) 64 fs₁ ≡ set (area (best_at n) 64 fs) i dist_read = set-area fs (n + n + i) dist_read (best_at n) 64 i refl h in
      let sl = length-set (area (best_at n) 64 us) i node_read in
      let dl = length-set (area (best_at n) 64 fs) i dist_read in
      record {
        best =
            ap (λ (l : List ℕ). entries (i + 1) l (area (best_at n) 64 fs₁)) nodes
            ∙ ap (λ (l : List Float). entries (i + 1) (set (area (best_at n) 64 us) i node_read) l) dists
            ∙ ap (λ (j : ℕ). entries j (set (area (best_at n) 64 us) i node_read) (set (area (best_at n) 64 fs) i dist_read)) (add-one i)
            ∙ entries-suc i (set (area (best_at n) 64 us) i node_read) (set (area (best_at n) 64 fs) i dist_read) 0 nan (omega arith) (omega arith)
            ∙ ap (λ (es : List Neighbor). es ++ (neighbor (get_or (set (area (best_at n) 64 us) i node_read) i 0) (get_or (set (area (best_at n) 64 fs) i dist_read) i nan) ∷ []))
            (entries-same i (set (area (best_at n) 64 us) i node_read) (area (best_at n) 64 us) (set (area (best_at n) 64 fs) i dist_read) (area (best_at n) 64 fs)
            (take-set-le i (area (best_at n) 64 us) i node_read (omega arith)) (take-set-le i (area (best_at n) 64 fs) i dist_read (omega arith))
            ∙ inv.best)
            ∙ ap (λ (v : ℕ). found_in n us₀ fs₀ i ++ (neighbor v (get_or (set (area (best_at n) 64 fs) i dist_read) i nan) ∷ []))
            (get_or-set_same (area (best_at n) 64 us) i node_read 0 (omega arith) ∙ node_is)
            ∙ ap (λ (d : Float). found_in n us₀ fs₀ i ++ (neighbor (get_or (area (found_at n) 64 us₀) i 0) d ∷ []))
            (get_or-set_same (area (best_at n) 64 fs) i dist_read nan (omega arith) ∙ dist_is)
            ∙ sym (entries-suc i (area (found_at n) 64 us₀) (area (found_at n) 64 fs₀) 0 nan (omega arith) (omega arith))
            ∙ ap (λ (j : ℕ). found_in n us₀ fs₀ j) (sym (add-one i));
        queue =
            queue_grown n us₁ i node_read (rw (length-set us (n + n + i) node_read) (omega arith)) k
            ∙ ap (λ (l : List ℕ). take i l ++ (node_read ∷ [])) (set_high us (n + n + i) node_read n n (omega arith))
            ∙ ap (λ (l : List ℕ). l ++ (node_read ∷ [])) inv.queue
            ∙ ap (λ (v : ℕ). take i (area (found_at n) 64 us₀) ++ (v ∷ [])) node_is
            ∙ sym (take-suc (area (found_at n) 64 us₀) i 0 (omega arith))
            ∙ ap (λ (j : ℕ). take j (area (found_at n) 64 us₀)) (sym (add-one i));
        kept = found-kept-on inv.kept (found-kept-on (best_stored n us fs i node_read dist_read h) (queue_stored n us₁ fs₁ i node_read k));
      }

pub entering_end : {n : ℕ} {us₀ : List ℕ} {fs₀ : List Float} {us : List ℕ} {fs : List Float} {m : ℕ} → Room n us₀ fs₀ → m ≤ 64 → Entering n us₀ fs₀ us fs m → Entered n m us₀ fs₀ us fs
entering_end {n} {us₀} {fs₀} {us} {fs} {m} room h inv =
    let x = room.floats in
    let fd = length-area (found_at n) 64 fs₀ (omega arith) in
    record {
      best = inv.best;
      queue = inv.queue ∙ sym (nodes_of-entries m (area (found_at n) 64 us₀) (area (found_at n) 64 fs₀) (omega arith));
      kept = inv.kept;
    }
