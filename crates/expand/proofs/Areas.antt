-- What each write does to the areas of scratch. Assumes nothing.
use mathlib.Core.Path.{◌≡◌, refl, sym, ap, ◌∙◌}
use mathlib.Core.List.{List, [], ◌∷◌, ◌++◌}
use Prim.Native.Nat.{ℕ, ◌+◌, ◌-◌, ◌≤◌, ◌<◌}
use native.Mathlib.Numerals.{add-one}
use native.Mathlib.Omega.{arith}
use lib.ListN.{length, take, set, length-set}
use lib.Seq.{take-set-le, take-suc-set}
use lib.Ieee.{Float}
use borrow.Rule.Slice.PartMut.{put_mid}
use Rattle.rules.specs.declared.Neighbor.{Neighbor}
use Rattle.rules.specs.Lists.{entries, insert}
use Rattle.lists.specs.Lists.{Pushed}
use Rattle.lists.proofs.Slices.{take-entries}
use Rattle.buffers.specs.Area.{area}
use Rattle.expand.specs.Areas.{best_at, found_at, seen_in, queue_in, best_in, found_in, Room, QueueKept, FoundKept}
use Rattle.buffers.proofs.Places.{length-area, put-length, put-area, put_front, put_low, put_high, set-area, set-low}

-- ---- an entry is pushed among those found

pub record FoundPushed (n : ℕ) (us : List ℕ) (fs : List Float) (len : ℕ) (e : Neighbor) (us' : List ℕ) (fs' : List Float) (r : ℕ) : Type 0 where
  pub entries : found_in n us' fs' r ≡ insert e (found_in n us fs len)
  pub seen : seen_in n us' ≡ seen_in n us
  pub kept : QueueKept n us fs us' fs'
  pub count : r ≡ len + 1

module _ (n : ℕ) (us : List ℕ) (fs : List Float) (room : Room n us fs) where
  pub found-pushed : {len : ℕ} {e : Neighbor} {ns : List ℕ} {ds : List Float} {r : ℕ}
      → Pushed (area (found_at n) 64 us) (area (found_at n) 64 fs) len e ns ds r
      → FoundPushed n us fs len e (put_mid (found_at n) 64 us ns) (put_mid (found_at n) 64 fs ds) r
  found-pushed {len} {e} {ns} {ds} {r} p =
      let rw_words = room.words in
      let rw_floats = room.floats in
      let wl : length ns ≡ 64 = p.nodes_long ∙ length-area (found_at n) 64 us (omega arith) in
      let fl : length ds ≡ 64 = p.dists_long ∙ length-area (found_at n) 64 fs (omega arith) in
      let uf : found_at n + 64 ≤ length us = omega arith in
      let ff : found_at n + 64 ≤ length fs = omega arith in
      record {
        entries =
            ap (λ (l : List ℕ). entries r l (area (found_at n) 64 (put_mid (found_at n) 64 fs ds))) (put-area (found_at n) 64 us ns uf wl)
            ∙ ap (λ (l : List Float). entries r ns l) (put-area (found_at n) 64 fs ds ff fl)
            ∙ p.list;
        seen = put_front (found_at n) 64 us ns uf wl n (omega arith);
        kept = record {
          queue = put_low (found_at n) 64 us ns uf wl n n (omega arith);
          nodes = put_low (found_at n) 64 us ns uf wl (best_at n) 64 (omega arith);
          dists = put_low (found_at n) 64 fs ds ff fl (best_at n) 64 (omega arith);
          words = put-length (found_at n) 64 us ns uf wl;
          floats = put-length (found_at n) 64 fs ds ff fl;
        };
        count = p.count;
      }

  -- the same, of a part whose length is worked out by the code
  pub found-pushed_by : (w : ℕ) → w ≡ 64 → {len : ℕ} {e : Neighbor} {ns : List ℕ} {ds : List Float} {r : ℕ}
      → Pushed (area (found_at n) w us) (area (found_at n) w fs) len e ns ds r
      → FoundPushed n us fs len e (put_mid (found_at n) w us ns) (put_mid (found_at n) w fs ds) r
  found-pushed_by w e p = rw e (found-pushed (rw e at p))

  -- ---- the last of the best set gives way to an entry, which joins the queue

  pub record BestPushed (m : ℕ) (e : Neighbor) (us' : List ℕ) (fs' : List Float) : Type 0 where
    pub best : best_in n us' fs' m ≡ insert e (take (m - 1) (best_in n us fs m))
    pub queue : queue_in n us' ≡ queue_in n us
    pub kept : FoundKept n us fs us' fs'

  pub best-pushed : {m : ℕ} {e : Neighbor} {ns : List ℕ} {ds : List Float} {r : ℕ} → 1 ≤ m → m ≤ 64
      → Pushed (area (best_at n) 64 us) (area (best_at n) 64 fs) (m - 1) e ns ds r
      → BestPushed m e (put_mid (best_at n) 64 us ns) (put_mid (best_at n) 64 fs ds)
  best-pushed {m} {e} {ns} {ds} {r} some few p =
      let rw_words = room.words in
      let rw_floats = room.floats in
      let wl : length ns ≡ 64 = p.nodes_long ∙ length-area (best_at n) 64 us (omega arith) in
      let fl : length ds ≡ 64 = p.dists_long ∙ length-area (best_at n) 64 fs (omega arith) in
      let uf : best_at n + 64 ≤ length us = omega arith in
      let ff : best_at n + 64 ≤ length fs = omega arith in
      let whole : m ≡ r = let c = p.count in omega arith in
      record {
        best =
            ap (λ (l : List ℕ). entries m l (area (best_at n) 64 (put_mid (best_at n) 64 fs ds))) (put-area (best_at n) 64 us ns uf wl)
            ∙ ap (λ (l : List Float). entries m ns l) (put-area (best_at n) 64 fs ds ff fl)
            ∙ ap (λ (k : ℕ). entries k ns ds) whole
            ∙ p.list
            ∙ ap (insert e) (sym (take-entries (m - 1) m (area (best_at n) 64 us) (area (best_at n) 64 fs) (omega arith)));
        queue = put_low (best_at n) 64 us ns uf wl n n (omega arith);
        kept = record {
          seen = put_front (best_at n) 64 us ns uf wl n (omega arith);
          nodes = put_high (best_at n) 64 us ns uf wl (found_at n) 64 (omega arith);
          dists = put_high (best_at n) 64 fs ds ff fl (found_at n) 64 (omega arith);
          words = put-length (best_at n) 64 us ns uf wl;
          floats = put-length (best_at n) 64 fs ds ff fl;
        };
      }

  pub best-pushed_by : (w : ℕ) → w ≡ 64 → {m : ℕ} {e : Neighbor} {ns : List ℕ} {ds : List Float} {r : ℕ} → 1 ≤ m → m ≤ 64
      → Pushed (area (best_at n) w us) (area (best_at n) w fs) (m - 1) e ns ds r
      → BestPushed m e (put_mid (best_at n) w us ns) (put_mid (best_at n) w fs ds)
  best-pushed_by w e some few p = rw e (best-pushed some few (rw e at p))

-- ---- a flag is set

pub seen-marked : (n : ℕ) (us : List ℕ) (fs : List Float) (v : ℕ) → v < n → QueueKept n us fs (set us v 1) fs
seen-marked n us fs v h =
    record {
      queue = set-low us v 1 n n h;
      nodes = set-low us v 1 (best_at n) 64 (omega arith);
      dists = refl;
      words = length-set us v 1;
      floats = refl;
    }

-- ---- the queue grows by one

pub queue_grown : (n : ℕ) (us : List ℕ) (tail v : ℕ) → n + n ≤ length us → tail < n
    → take (tail + 1) (queue_in n (set us (n + tail) v)) ≡ take tail (queue_in n us) ++ (v ∷ [])
queue_grown n us tail v h l =
    let long = length-area n n us h in
    ap (take (tail + 1)) (set-area us (n + tail) v n n tail refl l)
    ∙ rw add-one (take-suc-set (queue_in n us) tail v (omega arith))

pub queue_stored : (n : ℕ) (us : List ℕ) (fs : List Float) (tail v : ℕ) → tail < n → FoundKept n us fs (set us (n + tail) v) fs
queue_stored n us fs tail v h =
    record {
      seen = take-set-le n us (n + tail) v (omega arith);
      nodes = set-low us (n + tail) v (found_at n) 64 (omega arith);
      dists = refl;
      words = length-set us (n + tail) v;
      floats = refl;
    }

-- ---- areas that stay, over several writes

pub queue-kept : {n : ℕ} {us : List ℕ} {fs : List Float} → QueueKept n us fs us fs
queue-kept = record { queue = refl; nodes = refl; dists = refl; words = refl; floats = refl }

pub queue-kept-on : {n : ℕ} {us us₁ us₂ : List ℕ} {fs fs₁ fs₂ : List Float} → QueueKept n us fs us₁ fs₁ → QueueKept n us₁ fs₁ us₂ fs₂ → QueueKept n us fs us₂ fs₂
queue-kept-on p q =
    record {
      queue = q.queue ∙ p.queue;
      nodes = q.nodes ∙ p.nodes;
      dists = q.dists ∙ p.dists;
      words = q.words ∙ p.words;
      floats = q.floats ∙ p.floats;
    }

pub found-kept : {n : ℕ} {us : List ℕ} {fs : List Float} → FoundKept n us fs us fs
found-kept = record { seen = refl; nodes = refl; dists = refl; words = refl; floats = refl }

pub found-kept-on : {n : ℕ} {us us₁ us₂ : List ℕ} {fs fs₁ fs₂ : List Float} → FoundKept n us fs us₁ fs₁ → FoundKept n us₁ fs₁ us₂ fs₂ → FoundKept n us fs us₂ fs₂
found-kept-on p q =
    record {
      seen = q.seen ∙ p.seen;
      nodes = q.nodes ∙ p.nodes;
      dists = q.dists ∙ p.dists;
      words = q.words ∙ p.words;
      floats = q.floats ∙ p.floats;
    }

pub room-kept : {n : ℕ} {us us' : List ℕ} {fs fs' : List Float} → Room n us fs → length us' ≡ length us → length fs' ≡ length fs → Room n us' fs'
room-kept {n} {us} {us'} {fs} {fs'} room e f =
    let w = room.words in
    let x = room.floats in
    record { words = omega arith; floats = omega arith }
