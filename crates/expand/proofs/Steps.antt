-- What each step of the walk leaves, from what its writes do. Assumes nothing.
use mathlib.Core.Path.{◌≡◌, refl, sym, ap, ◌∙◌}
use mathlib.Core.Bool.{Bool, true, false, cond}
use mathlib.Core.List.{List, [], ◌∷◌, ◌++◌}
use Prim.Native.Nat.{ℕ, suc, ◌+◌, ◌-◌, ◌≤◌, ◌<◌}
use native.Mathlib.Numerals.{add-one}
use native.Mathlib.Omega.{arith}
use borrow.Author.Tests.{eq-eqb, ne_eqb, lt-ltb, le-ltb}
use lib.Dec.{eqb}
use lib.ListN.{length, take, drop, get_or, set, drop_of_length-le}
use lib.Seq.{get_or-take, get_or-drop, drop-cons, take-set-lt}
use lib.Ieee.{Float, nan, lt}
use Rattle.std.specs.Prelude.{Ok, Err, Some, None}
use Rattle.rules.specs.Answers.{Distance}
use Rattle.rules.specs.declared.NodeId.{NodeId}
use Rattle.rules.specs.declared.Neighbor.{Neighbor}
use Rattle.rules.specs.Distance.{zero32}
use Rattle.rules.specs.Lists.{neighbor, node_of, entries, insert}
use Rattle.rules.specs.Rows.{live_nodes}
use Rattle.rules.specs.Search.{Going, on, unfit_at, Found, and_then, mark, is_seen, farthest, joins, take_these}
use Rattle.lists.proofs.Slices.{length-entries, get_d_entries, drop-entries}
use Rattle.expand.specs.Steps.{Counted}
use Rattle.buffers.specs.Area.{area}
use Rattle.expand.specs.Areas.{best_at, found_at, seen_in, queue_in, best_in, found_in, Room, QueueKept, FoundKept}
use Rattle.expand.specs.Steps.{works_near, visit_near, visits_near, found, found_after, entries_after, at_most, WorkedOut, Visited, taken, Joined, TakenIn}
use Rattle.buffers.proofs.Places.{length-area, set-low}
use Rattle.expand.proofs.Areas.{FoundPushed, BestPushed, seen-marked, queue_grown, queue_stored, queue-kept, queue-kept-on, found-kept, found-kept-on, room-kept}

-- ---- a distance is worked out

module _ (far : Float) (apart : ℕ → Distance) (n len : ℕ) (v : NodeId) (us : List ℕ) (fs : List Float) where
  pub worked_fit : {x : Float} {us' : List ℕ} {fs' : List Float} {r : ℕ} → apart v.0 ≡ Some x → lt far x ≡ false
      → FoundPushed n us fs len (neighbor v.0 x) us' fs' r → WorkedOut far apart n v.0 len us fs us' fs' (Ok r)
  unfolding entries_after works_near at_most
  worked_fit {x} e near p =
      let count = p.count in
      record {
        entries =
            ap on p.entries
            ∙ ap (λ (b : Bool). on (cond b (found_in n us fs len) (insert (neighbor v.0 x) (found_in n us fs len)))) (sym near)
            ∙ ap (works_near far v.0 (found_in n us fs len)) (sym e);
        seen = p.seen;
        kept = p.kept;
        few = omega arith;
      }

  pub worked_far : {x : Float} → apart v.0 ≡ Some x → lt far x ≡ true → WorkedOut far apart n v.0 len us fs us fs (Ok len)
  unfolding entries_after works_near at_most
  worked_far {x} e beyond =
      record {
        entries =
            ap (λ (b : Bool). on (cond b (found_in n us fs len) (insert (neighbor v.0 x) (found_in n us fs len)))) (sym beyond)
            ∙ ap (works_near far v.0 (found_in n us fs len)) (sym e);
        seen = refl;
        kept = queue-kept;
        few = omega arith;
      }

  pub worked-unfit : apart v.0 ≡ None → WorkedOut far apart n v.0 len us fs us fs (Err v)
  unfolding entries_after works_near at_most
  worked-unfit e =
      record { entries = ap (works_near far v.0 (found_in n us fs len)) (sym e); seen = refl; kept = queue-kept; few = tt }

-- ---- one member of a row is visited

seen-is : (n : ℕ) (us : List ℕ) (v : ℕ) → v < n → is_seen v (seen_in n us) ≡ eqb (get_or us v 0) 1
unfolding is_seen
seen-is n us v h = ap (λ (x : ℕ). eqb x 1) (get_or-take n us v 0 h)

marked : (n : ℕ) (us : List ℕ) (v : ℕ) → v < n → seen_in n (set us v 1) ≡ mark v (seen_in n us)
unfolding mark
marked n us v h = take-set-lt n us v 1 h

-- an unseen node is worked out and marked
abbrev marking : ℕ → Found → List Neighbor → Found
marking v f es = record { seen = mark v f.seen; entries = es; worked = 0 }

visit_unseen : (far : Float) (apart : ℕ → Distance) (v : ℕ) (f : Found) → is_seen v f.seen ≡ false
    → visits_near far apart (v ∷ []) f ≡ and_then (works_near far v f.entries (apart v)) (λ (es : List Neighbor). on (marking v f es))
unfolding visits_near visit_near and_then
visit_unseen far apart v f e = rw e (go (works_near far v f.entries (apart v)))
  where
    go : (g : Going (List Neighbor)) → and_then (and_then g (λ (es : List Neighbor). on (marking v f es))) (visits_near far apart []) ≡ and_then g (λ (es : List Neighbor). on (marking v f es))
    go (on es) = refl
    go (unfit_at u) = refl

-- what the entries say of all that is found
found_of : (n len v : ℕ) (us us' : List ℕ) (fs fs' : List Float) (r : Counted) → seen_in n us' ≡ mark v (seen_in n us)
    → found_after n us' fs' r ≡ and_then (entries_after n us' fs' r) (λ (es : List Neighbor). on (marking v (found n us fs len) es))
unfolding found_after entries_after and_then
found_of n len v us us' fs fs' (Ok l) s = ap (λ (seen : List ℕ). on (record { seen = seen; entries = found_in n us' fs' l; worked = 0 })) s
found_of n len v us us' fs fs' (Err u) s = refl

module _ (far : Float) (apart : ℕ → Distance) (n len v : ℕ) (us : List ℕ) (fs : List Float) (below : v < n) where
  pub visited-before : get_or us v 0 ≡ 1 → Visited far apart n (v ∷ []) len 1 us fs us fs (Ok len)
  unfolding found_after visits_near visit_near and_then at_most
  visited-before e =
      record {
        found = rw (seen-is n us v below ∙ eq-eqb (get_or us v 0) 1 e);
        kept = queue-kept;
        few = omega arith;
      }

  pub visited_now : {us' : List ℕ} {fs' : List Float} (r : Counted) → (get_or us v 0 ≡ 1 → ⊥) → WorkedOut far apart n v len (set us v 1) fs us' fs' r
      → Visited far apart n (v ∷ []) len 1 us fs us' fs' r
  visited_now {us'} {fs'} r e p =
      let same : found_in n (set us v 1) fs len ≡ found_in n us fs len =
      ap (λ (l : List ℕ). entries len l (area (found_at n) 64 fs)) (set-low us v 1 (found_at n) 64 (omega arith)) in
      let unseen : is_seen v (seen_in n us) ≡ false = seen-is n us v below ∙ ne_eqb (get_or us v 0) 1 e in
      record {
        found =
            found_of n len v us us' fs fs' r (p.seen ∙ marked n us v below)
            ∙ ap (λ (g : Going (List Neighbor)). and_then g (λ (es : List Neighbor). on (marking v (found n us fs len) es)))
            (p.entries ∙ ap (λ (es : List Neighbor). works_near far v es (apart v)) same)
            ∙ sym (visit_unseen far apart v (found n us fs len) unseen);
        kept = queue-kept-on (seen-marked n us fs v below) p.kept;
        few = p.few;
      }

-- ---- a row is visited

visits-append : (far : Float) (apart : ℕ → Distance) (vs ws : List ℕ) (f : Found) → visits_near far apart (vs ++ ws) f ≡ and_then (visits_near far apart vs f) (visits_near far apart ws)
unfolding visits_near and_then
visits-append far apart [] ws f = refl
visits-append far apart (v ∷ vs) ws f = go (visit_near far apart v f) (visits-append far apart vs ws)
  where
    go : (g : Going Found) → ((a : Found) → visits_near far apart (vs ++ ws) a ≡ and_then (visits_near far apart vs a) (visits_near far apart ws))
        → and_then g (visits_near far apart (vs ++ ws)) ≡ and_then (and_then g (visits_near far apart vs)) (visits_near far apart ws)
    go (on a) rest = rest a
    go (unfit_at u) rest = refl

live_here : (n v : ℕ) (vs : List ℕ) → v < n → live_nodes n (v ∷ vs) ≡ v ∷ live_nodes n vs
unfolding live_nodes
live_here n v vs h = rw (lt-ltb v n h)

live-stops : (n v : ℕ) (vs : List ℕ) → n ≤ v → live_nodes n (v ∷ vs) ≡ []
unfolding live_nodes
live-stops n v vs h = rw (le-ltb v n h)

-- what is left of the row gives the whole
pub record Visiting (far : Float) (apart : ℕ → Distance) (n : ℕ) (row : List ℕ) (us₀ : List ℕ) (fs₀ : List Float) (us : List ℕ) (fs : List Float) (len j : ℕ) : Type 0 where
  pub left : visits_near far apart (live_nodes n (drop j row)) (found n us fs len) ≡ visits_near far apart (live_nodes n row) (found n us₀ fs₀ 0)
  pub kept : QueueKept n us₀ fs₀ us fs
  pub few : len ≤ j
  pub at : j ≤ length row

pub visiting_none : (far : Float) (apart : ℕ → Distance) (n : ℕ) (row us : List ℕ) (fs : List Float) → Visiting far apart n row us fs us fs 0 0
visiting_none far apart n row us fs = record { left = refl; kept = queue-kept; few = omega arith; at = omega arith }

module _ {far : Float} {apart : ℕ → Distance} {n : ℕ} {row us₀ : List ℕ} {fs₀ : List Float} {us : List ℕ} {fs : List Float} {len j : ℕ} (inv : Visiting far apart n row us₀ fs₀ us fs len j) where
  -- no member is left
  ends : live_nodes n (drop j row) ≡ [] → j ≤ 64 → Visited far apart n (live_nodes n row) 0 64 us₀ fs₀ us fs (Ok len)
  unfolding found_after visits_near at_most
  ends e h =
      let few = inv.few in
      record {
        found = sym (ap (λ (vs : List ℕ). visits_near far apart vs (found n us fs len)) e) ∙ inv.left;
        kept = inv.kept;
        few = omega arith;
      }

  pub visiting_end : length row ≤ j → length row ≤ 64 → Visited far apart n (live_nodes n row) 0 64 us₀ fs₀ us fs (Ok len)
  unfolding live_nodes
  visiting_end h k = let at = inv.at in ends (ap (live_nodes n) (drop_of_length-le row {i = j} h)) (omega arith)

  pub visiting_stop : j < length row → length row ≤ 64 → n ≤ get_or row j 0 → Visited far apart n (live_nodes n row) 0 64 us₀ fs₀ us fs (Ok len)
  visiting_stop h k over = ends (ap (live_nodes n) (drop-cons row j 0 h) ∙ live-stops n (get_or row j 0) (drop (suc j) row) over) (omega arith)

  -- the next member, and the rest of the row behind it
  next-is : j < length row → get_or row j 0 < n
      → visits_near far apart (live_nodes n (drop j row)) (found n us fs len)
      ≡ and_then (visits_near far apart (get_or row j 0 ∷ []) (found n us fs len)) (visits_near far apart (live_nodes n (drop (j + 1) row)))
  next-is h below =
      ap (λ (vs : List ℕ). visits_near far apart vs (found n us fs len))
      (ap (live_nodes n) (drop-cons row j 0 h) ∙ live_here n (get_or row j 0) (drop (suc j) row) below
      ∙ ap (λ (i : ℕ). get_or row j 0 ∷ live_nodes n (drop i row)) (sym (add-one j)))
      ∙ visits-append far apart (get_or row j 0 ∷ []) (live_nodes n (drop (j + 1) row)) (found n us fs len)

  pub visiting_more : {us' : List ℕ} {fs' : List Float} {r : Counted} {more : ℕ} → j < length row → get_or row j 0 < n → r ≡ Ok more
      → Visited far apart n (get_or row j 0 ∷ []) len 1 us fs us' fs' r → Visiting far apart n row us₀ fs₀ us' fs' more (j + 1)
  unfolding found_after and_then at_most
  visiting_more {us'} {fs'} {r} {more} h below e w =
      let v : Visited far apart n (get_or row j 0 ∷ []) len 1 us fs us' fs' (Ok more) = rw e at w in
      let few = inv.few in
      let now = v.few in
      record {
        left =
            ap (λ (g : Going Found). and_then g (visits_near far apart (live_nodes n (drop (j + 1) row)))) v.found
            ∙ sym (next-is h below)
            ∙ inv.left;
        kept = queue-kept-on inv.kept v.kept;
        few = omega arith;
        at = omega arith;
      }

  pub visiting_unfit : {us' : List ℕ} {fs' : List Float} {r : Counted} {u : NodeId} → j < length row → get_or row j 0 < n → r ≡ Err u
      → Visited far apart n (get_or row j 0 ∷ []) len 1 us fs us' fs' r → Visited far apart n (live_nodes n row) 0 64 us₀ fs₀ us' fs' r
  unfolding found_after and_then at_most
  visiting_unfit {us'} {fs'} {r} {u} h below e w =
      let v : Visited far apart n (get_or row j 0 ∷ []) len 1 us fs us' fs' (Err u) = rw e at w in
      rw e
      (record {
        found =
            ap (λ (g : Going Found). and_then g (visits_near far apart (live_nodes n (drop (j + 1) row)))) v.found
            ∙ sym (next-is h below)
            ∙ inv.left;
        kept = queue-kept-on inv.kept v.kept;
        few = tt;
      })

-- ---- an entry joins

pub best-long : (n m : ℕ) (us : List ℕ) (fs : List Float) → Room n us fs → m ≤ 64 → length (best_in n us fs m) ≡ m
best-long n m us fs room h =
    let w = room.words in
    let x = room.floats in
    let ul = length-area (best_at n) 64 us (omega arith) in
    let fl = length-area (best_at n) 64 fs (omega arith) in
    length-entries m (area (best_at n) 64 us) (area (best_at n) 64 fs) (omega arith) (omega arith)

-- the farthest best, as the code reads it
pub far_read : (n m : ℕ) (us : List ℕ) (fs : List Float) → Room n us fs → 1 ≤ m → m ≤ 64 → farthest (best_in n us fs m) ≡ get_or fs (n + n + m - 1) nan
unfolding farthest
far_read n m us fs room some few =
    let w = room.words in
    let x = room.floats in
    let ul = length-area (best_at n) 64 us (omega arith) in
    let fl = length-area (best_at n) 64 fs (omega arith) in
    let at : n + n + (m - 1) ≡ n + n + m - 1 = omega arith in
    ap (λ (k : ℕ). (get_or (best_in n us fs m) (k - 1) (neighbor 0 zero32)).distance) (best-long n m us fs room few)
    ∙ ap (λ (e : Neighbor). e.distance)
    (get_d_entries m (m - 1) (area (best_at n) 64 us) (area (best_at n) 64 fs) 0 nan (neighbor 0 zero32) (omega arith) (omega arith) (omega arith))
    ∙ get_or-take 64 (drop (best_at n) fs) (m - 1) nan (omega arith)
    ∙ get_or-drop (best_at n) fs (m - 1) nan
    ∙ ap (λ (k : ℕ). get_or fs k nan) at

pub joined : {n : ℕ} {us : List ℕ} {fs : List Float} (room : Room n us fs) {m tail : ℕ} {e : Neighbor} {us₁ : List ℕ} {fs₁ : List Float}
    → m ≤ 64 → tail < n → BestPushed n us fs room m e us₁ fs₁ → Joined n m tail e us fs (set us₁ (n + tail) (node_of e)) fs₁ (tail + 1)
unfolding joins
joined {n} {us} {fs} room {m} {tail} {e} {us₁} {fs₁} few h p =
    let w = room.words in
    let long = p.kept.words in
    let v = node_of e in
    record {
      taken =
          ap (λ (l : List ℕ). record { best = entries m l (area (best_at n) 64 fs₁); queue = take (tail + 1) (queue_in n (set us₁ (n + tail) v)) })
          (set-low us₁ (n + tail) v (best_at n) 64 (omega arith))
          ∙ ap (λ (q : List ℕ). record { best = best_in n us₁ fs₁ m; queue = q })
          (queue_grown n us₁ tail v (omega arith) h ∙ ap (λ (l : List ℕ). take tail l ++ (v ∷ [])) p.queue)
          ∙ ap (λ (b : List Neighbor). record { best = b; queue = take tail (queue_in n us) ++ (v ∷ []) })
          (p.best ∙ ap (λ (k : ℕ). insert e (take (k - 1) (best_in n us fs m))) (sym (best-long n m us fs room few)));
      kept = found-kept-on p.kept (queue_stored n us₁ fs₁ tail v h);
      count = refl;
    }

-- ---- the entries found are taken in order

-- what is left of them gives the whole
pub record Taking (n m len tail : ℕ) (us₀ : List ℕ) (fs₀ : List Float) (us : List ℕ) (fs : List Float) (end i : ℕ) : Type 0 where
  pub left : take_these (drop i (found_in n us₀ fs₀ len)) (taken n us fs m end) ≡ take_these (found_in n us₀ fs₀ len) (taken n us₀ fs₀ m tail)
  pub kept : FoundKept n us₀ fs₀ us fs
  pub most : end ≤ tail + i
  pub at : i ≤ len

pub taking_none : (n m len tail : ℕ) (us : List ℕ) (fs : List Float) → Taking n m len tail us fs us fs tail 0
taking_none n m len tail us fs = record { left = refl; kept = found-kept; most = omega arith; at = omega arith }

module _ {n m len tail : ℕ} {us₀ : List ℕ} {fs₀ : List Float} {us : List ℕ} {fs : List Float} {end i : ℕ} (room : Room n us₀ fs₀) (few : m ≤ 64) (some : 1 ≤ m)
    (short : len ≤ 64) (inv : Taking n m len tail us₀ fs₀ us fs end i) where
  -- entry i, as the code reads it
  abbrev entry_read : Neighbor
  entry_read = neighbor (get_or us (n + n + 64 + i) 0) (get_or fs (n + n + 64 + i) nan)

  next-found : i < len → drop i (found_in n us₀ fs₀ len) ≡ entry_read ∷ drop (i + 1) (found_in n us₀ fs₀ len)
  next-found h =
      let w = room.words in
      let x = room.floats in
      let ul = length-area (found_at n) 64 us₀ (omega arith) in
      let fl = length-area (found_at n) 64 fs₀ (omega arith) in
      let a : get_or (area (found_at n) 64 us₀) i 0 ≡ get_or us (n + n + 64 + i) 0 =
      ap (λ (l : List ℕ). get_or l i 0) (sym inv.kept.nodes) ∙ get_or-take 64 (drop (found_at n) us) i 0 (omega arith) ∙ get_or-drop (found_at n) us i 0 in
      let b : get_or (area (found_at n) 64 fs₀) i nan ≡ get_or fs (n + n + 64 + i) nan =
      ap (λ (l : List Float). get_or l i nan) (sym inv.kept.dists) ∙ get_or-take 64 (drop (found_at n) fs) i nan (omega arith) ∙ get_or-drop (found_at n) fs i nan in
      drop-entries len i (area (found_at n) 64 us₀) (area (found_at n) 64 fs₀) 0 nan h (omega arith) (omega arith)
      ∙ ap (λ (v : ℕ). neighbor v (get_or (area (found_at n) 64 fs₀) i nan) ∷ drop (suc i) (found_in n us₀ fs₀ len)) a
      ∙ ap (λ (d : Float). neighbor (get_or us (n + n + 64 + i) 0) d ∷ drop (suc i) (found_in n us₀ fs₀ len)) b
      ∙ ap (λ (j : ℕ). entry_read ∷ drop j (found_in n us₀ fs₀ len)) (sym (add-one i))

  room_now : Room n us fs
  room_now = room-kept room inv.kept.words inv.kept.floats

  step_is : (b : Bool) → i < len → lt (get_or fs (n + n + m - 1) nan) entry_read.distance ≡ b
      → take_these (drop i (found_in n us₀ fs₀ len)) (taken n us fs m end)
      ≡ cond b (taken n us fs m end) (take_these (drop (i + 1) (found_in n us₀ fs₀ len)) (joins entry_read (taken n us fs m end)))
  unfolding take_these
  step_is b h e =
      ap (λ (l : List Neighbor). take_these l (taken n us fs m end)) (next-found h)
      ∙ ap (λ (t : Bool). cond t (taken n us fs m end) (take_these (drop (i + 1) (found_in n us₀ fs₀ len)) (joins entry_read (taken n us fs m end))))
      (ap (λ (d : Float). lt d entry_read.distance) (far_read n m us fs room_now some few) ∙ e)

  pub taking_stop : i < len → lt (get_or fs (n + n + m - 1) nan) entry_read.distance ≡ true → TakenIn n m len tail us₀ fs₀ us fs end
  taking_stop h e =
      let most = inv.most in
      record { taken = sym (step_is true h e) ∙ inv.left; kept = inv.kept; most = omega arith }

  pub taking-more : {us' : List ℕ} {fs' : List Float} {r : ℕ} → i < len → lt (get_or fs (n + n + m - 1) nan) entry_read.distance ≡ false
      → Joined n m end entry_read us fs us' fs' r → Taking n m len tail us₀ fs₀ us' fs' r (i + 1)
  taking-more h e j =
      let most = inv.most in
      let count = j.count in
      record {
        left =
            ap (take_these (drop (i + 1) (found_in n us₀ fs₀ len))) j.taken ∙ sym (step_is false h e) ∙ inv.left;
        kept = found-kept-on inv.kept j.kept;
        most = omega arith;
        at = omega arith;
      }

  pub taking-end : len ≤ i → TakenIn n m len tail us₀ fs₀ us fs end
  unfolding take_these
  taking-end h =
      let most = inv.most in
      let at = inv.at in
      let w = room.words in
      let x = room.floats in
      let ul = length-area (found_at n) 64 us₀ (omega arith) in
      let fl = length-area (found_at n) 64 fs₀ (omega arith) in
      let long = length-entries len (area (found_at n) 64 us₀) (area (found_at n) 64 fs₀) (omega arith) (omega arith) in
      record {
        taken =
            sym (ap (λ (l : List Neighbor). take_these l (taken n us fs m end)) (drop_of_length-le (found_in n us₀ fs₀ len) {i = i} (omega arith)))
            ∙ inv.left;
        kept = inv.kept;
        most = omega arith;
      }
