-- The walk's start put together, and the whole walk. Assumes nothing.
use mathlib.Core.Path.{◌≡◌, refl, sym, ap, ◌∙◌, subst}
use mathlib.Core.List.{List, [], ◌∷◌, ◌++◌}
use Prim.Native.Nat.{ℕ, zero, suc, ◌+◌, ◌-◌, ◌≤◌, ◌<◌, min}
use native.Mathlib.Omega.{arith}
use borrow.Author.Tests.{lt-ltb, le-ltb}
use lib.ListN.{length, take, drop, replicate, length-take, length-replicate, length-append, length-drop}
use lib.Seq.{length-take-le, take_at, drop_at, drop-drop}
use lib.Ieee.{Float}
use Rattle.std.specs.Prelude.{Ok, Err}
use Rattle.rules.specs.Answers.{Distance}
use Rattle.rules.specs.declared.NodeId.{NodeId}
use Rattle.rules.specs.declared.Neighbor.{Neighbor}
use Rattle.rules.specs.Loops.{through}
use Rattle.rules.specs.Lists.{entries, nodes_of}
use Rattle.rules.specs.Rows.{graph_row}
use Rattle.rules.specs.Search.{Walk, Going, on, and_then, mark, roots_found, started, expand, walk, search_of}
use Rattle.lists.proofs.Laws.{take_min, holdable_take, ascending-take}
use Rattle.lists.proofs.Slices.{take-entries, length-entries}
use Rattle.expand.specs.Steps.{Counted}
use Rattle.buffers.specs.Area.{area}
use Rattle.lists.specs.Ascending.{AllHoldable, Ascending}
use Rattle.expand.specs.Areas.{found_at, seen_in, queue_in, best_in, found_in, Room, BestSound}
use Rattle.expand.specs.Queue.{ones, AllBelow, QueueSound, walk_in, walk_after, SoundAfter, BestAfter, Expanded}
use Rattle.buffers.proofs.Places.{length-area}
use Rattle.expand.proofs.Sound.{ones-most, Whenever}
use Rattle.walk.specs.Walks.{Roots, RootsIn, RootsFound, Marked, Entered, StartsIn, StartedIn, EndsIn, WalkedIn}
use Rattle.walk.proofs.Marks.{marks-long, marks-count, found_below, all-below}

-- ---- the flags are cleared and the roots marked, in the front of the words

-- what lies behind a front of n places that was written
behind : (n f : ℕ) (ys us : List ℕ) → n ≤ f → length ys ≡ n → drop f (ys ++ drop n us) ≡ drop f us
behind n f ys us h e =
    let g : n + (f - n) ≡ f = omega arith in
    ap (λ (k : ℕ). drop k (ys ++ drop n us)) (sym g)
    ∙ sym (drop-drop (f - n) n (ys ++ drop n us))
    ∙ ap (drop (f - n)) (drop_at ys (drop n us) n e)
    ∙ drop-drop (f - n) n us
    ∙ ap (λ (k : ℕ). drop k us) g

pub front_long : (n : ℕ) (ys us : List ℕ) → length ys ≡ n → length (take n (ys ++ drop n us)) ≡ n
front_long n ys us e = ap length (take_at ys (drop n us) n e) ∙ e

pub cleared_long : (n : ℕ) (ys us : List ℕ) → n ≤ length us → ys ≡ replicate (length (take n us)) 0 → length ys ≡ n
cleared_long n ys us h e = ap length e ∙ length-replicate (length (take n us)) 0 ∙ length-take-le n us h

pub marked : (n : ℕ) (roots us ys zs : List ℕ) → n ≤ length us → ys ≡ replicate (length (take n us)) 0 → zs ≡ through mark roots (take n (ys ++ drop n us))
    → Marked n roots us (zs ++ drop n (ys ++ drop n us))
marked n roots us ys zs h p q =
    let yl = cleared_long n ys us h p in
    let whole : zs ≡ through mark roots (replicate n 0) =
    q ∙ ap (through mark roots) (take_at ys (drop n us) n yl ∙ p ∙ ap (λ (k : ℕ). replicate k 0) (length-take-le n us h)) in
    let zl : length zs ≡ n = ap length whole ∙ marks-long roots (replicate n 0) ∙ length-replicate n 0 in
    let back : drop (found_at n) (zs ++ drop n (ys ++ drop n us)) ≡ drop (found_at n) us =
    behind n (found_at n) zs (ys ++ drop n us) (omega arith) zl ∙ behind n (found_at n) ys us (omega arith) yl in
    let rest = length-drop n us in
    let rest' = length-drop n (ys ++ drop n us) in
    let a = length-append ys (drop n us) in
    let b = length-append zs (drop n (ys ++ drop n us)) in
    record { seen = take_at zs (drop n (ys ++ drop n us)) n zl ∙ whole; nodes = ap (take 64) back; words = omega arith }

-- ---- the start

pub nothing-below : (n : ℕ) → AllBelow n (nodes_of [])
unfolding AllBelow nodes_of
nothing-below n = tt

pub cut_below : (n k : ℕ) (es : List Neighbor) → AllBelow n (nodes_of es) → AllBelow n (nodes_of (take k es))
unfolding AllBelow nodes_of
cut_below n zero es b = tt
cut_below n (suc k) [] b = tt
cut_below n (suc k) (e ∷ es) b = (b.0, cut_below n k es b.1)

module _ {apart : ℕ → Distance} {n k : ℕ} {roots us us₁ us₂ us₃ : List ℕ} {fs fs₁ fs₃ : List Float} {count m : ℕ} (fine : Roots n roots) where
  pub started_in : RootsFound apart n k roots us fs us₁ fs₁ (Ok count) → Marked n roots us₁ us₂ → m ≡ min k count → Entered n m us₂ fs₁ us₃ fs₃ → Room n us fs
      → StartedIn apart n k roots us fs us₃ fs₃ (Ok m)
  unfolding RootsIn StartsIn started Whenever
  started_in r d least e room =
      let s = r.found in
      let cw = r.words in
      let cf = r.floats in
      let w = room.words in
      let x = room.floats in
      let few = fine.few in
      let most = s.6 in
      let ul = length-area (found_at n) 64 us₁ (omega arith) in
      let fl = length-area (found_at n) 64 fs₁ (omega arith) in
      let sorted = s.0 in
      let found = found_in n us₁ fs₁ count in
      let long : length found ≡ count = length-entries count (area (found_at n) 64 us₁) (area (found_at n) 64 fs₁) (omega arith) (omega arith) in
      let cut : min k count ≡ min k (length roots) =
      ap (min k) (sym long) ∙ sym (length-take k found) ∙ ap length (sym s.3) ∙ length-take k sorted ∙ ap (min k) s.2 in
      let first : found_in n us₂ fs₁ m ≡ take k found =
      ap (λ (l : List ℕ). entries m l (area (found_at n) 64 fs₁)) d.nodes
      ∙ sym (take-entries m count (area (found_at n) 64 us₁) (area (found_at n) 64 fs₁) (omega arith))
      ∙ take_min m k found (least ∙ ap (min k) (sym long)) in
      let same : found_in n us₂ fs₁ m ≡ take k sorted = first ∙ sym s.3 in
      let queue : take m (queue_in n us₃) ≡ nodes_of (take k sorted) = e.queue ∙ ap nodes_of same in
      let seen : seen_in n us₃ ≡ through mark roots (replicate n 0) = e.kept.seen ∙ d.seen in
      let flags : ones (seen_in n us₃) ≡ length roots = ap ones seen ∙ marks-count n roots fine in
      let below : AllBelow n (nodes_of sorted) =
      subst (Whenever (λ (es : List Neighbor). AllBelow n (nodes_of es))) s.1 (found_below apart n roots [] (all-below n roots fine.below) (nothing-below n)) in
      record {
        starts = (
          sorted,
          s.1,
          ap (λ (l : List ℕ). record { seen = l; best = best_in n us₃ fs₃ m; queue = take m (queue_in n us₃); takings = 0; worked = length roots }) seen
              ∙ ap (λ (b : List Neighbor). record { seen = through mark roots (replicate n 0); best = b; queue = take m (queue_in n us₃); takings = 0; worked = length roots })
              (e.best ∙ same)
              ∙ ap (λ (q : List ℕ). record { seen = through mark roots (replicate n 0); best = take k sorted; queue = q; takings = 0; worked = length roots }) queue,
          record { few = omega arith; below = subst (AllBelow n) (sym queue) (cut_below n k sorted below) },
          least ∙ cut,
          record {
            held = subst AllHoldable (sym (e.best ∙ first)) (holdable_take k found s.4);
            rising = subst Ascending (sym (e.best ∙ first)) (ascending-take k found s.5);
          },
        );
        words = e.kept.words ∙ d.words ∙ r.words;
        floats = e.kept.floats ∙ r.floats;
      }

-- no more are found than there are roots
pub counted-few : {apart : ℕ → Distance} {n k : ℕ} {roots us us₁ : List ℕ} {fs fs₁ : List Float} {r : Counted} {count : ℕ} → r ≡ Ok count → RootsFound apart n k roots us fs us₁ fs₁ r → count ≤ length roots
unfolding RootsIn
counted-few {apart} {n} {k} {roots} {us} {us₁} {fs} {fs₁} e p =
    let q : RootsFound apart n k roots us fs us₁ fs₁ (Ok _) = rw e at p in q.found.6

-- what the walk goes on from
pub started-count : {apart : ℕ → Distance} {n k : ℕ} {roots us us₁ : List ℕ} {fs fs₁ : List Float} {r : Counted} {m : ℕ} → r ≡ Ok m → StartedIn apart n k roots us fs us₁ fs₁ r
    → QueueSound n us₁ m × (m ≡ min k (length roots)) × BestSound n us₁ fs₁ m
unfolding StartsIn
started-count {apart} {n} {k} {roots} {us} {us₁} {fs} {fs₁} e p =
    let q : StartedIn apart n k roots us fs us₁ fs₁ (Ok _) = rw e at p in (q.starts.3, q.starts.4, q.starts.5)

pub started-unfit : {apart : ℕ → Distance} {n k : ℕ} {roots us us₁ : List ℕ} {fs fs₁ : List Float} {r : Counted} {v : NodeId} → r ≡ Err v
    → RootsFound apart n k roots us fs us₁ fs₁ r → StartedIn apart n k roots us fs us₁ fs₁ r
unfolding RootsIn StartsIn
started-unfit {apart} {n} {k} {roots} {us} {us₁} {fs} {fs₁} {r} {v} e p =
    let q : RootsFound apart n k roots us fs us₁ fs₁ (Err v) = rw e at p in
    rw e (record { starts = q.found; words = q.words; floats = q.floats })

-- ---- the whole walk

walk_more : (apart : ℕ → Distance) (rows : ℕ → List ℕ) (limit : ℕ) (s : Walk) → s.takings < length s.queue → walk apart rows (suc limit) s ≡ and_then (expand apart rows s) (walk apart rows limit)
unfolding walk
walk_more apart rows limit s h = rw (lt-ltb s.takings (length s.queue) h)

walk-ended : (apart : ℕ → Distance) (rows : ℕ → List ℕ) (limit : ℕ) (s : Walk) → length s.queue ≤ s.takings → walk apart rows limit s ≡ on s
unfolding walk
walk-ended apart rows zero s h = refl
walk-ended apart rows (suc limit) s h = rw (le-ltb s.takings (length s.queue) h)

-- what is left of the walk gives the whole, however many distances were worked out before
pub record Walking (apart : ℕ → Distance) (rows : ℕ → List ℕ) (n m : ℕ) (us₀ : List ℕ) (fs₀ : List Float) (us : List ℕ) (fs : List Float) (takings tail : ℕ) : Type 0 where
  pub left : (w₀ : ℕ) → (w : ℕ) × (walk apart rows (n - takings) (walk_in n us fs m tail takings w) ≡ walk apart rows n (walk_in n us₀ fs₀ m m 0 w₀))
  pub sound : QueueSound n us tail
  pub best : BestSound n us fs m
  pub at : takings ≤ n
  pub words : length us ≡ length us₀
  pub floats : length fs ≡ length fs₀

pub walking_none : (apart : ℕ → Distance) (rows : ℕ → List ℕ) (n m : ℕ) (us : List ℕ) (fs : List Float) → QueueSound n us m → BestSound n us fs m → Walking apart rows n m us fs us fs 0 m
walking_none apart rows n m us fs sound best =
    let e : n - 0 ≡ n = omega arith in
    record {
      left = λ (w₀ : ℕ). (w₀, ap (λ (k : ℕ). walk apart rows k (walk_in n us fs m m 0 w₀)) e);
      sound = sound;
      best = best;
      at = omega arith;
      words = refl;
      floats = refl;
    }

module _ {apart : ℕ → Distance} {n : ℕ} (graph : List ℕ) (width : ℕ) {m : ℕ} {us₀ : List ℕ} {fs₀ : List Float} {us : List ℕ} {fs : List Float} {takings tail : ℕ} (room : Room n us₀ fs₀)
    (inv : Walking apart (graph_row n width graph) n m us₀ fs₀ us fs takings tail) where
  pub tail_short : tail ≤ n
  tail_short =
      let few = inv.sound.few in
      let most = ones-most (seen_in n us) in
      let w = room.words in
      let l = inv.words in
      let long = length-take-le n us (omega arith) in
      omega arith

  queue_long : length (take tail (queue_in n us)) ≡ tail
  queue_long =
      let short = tail_short in
      let w = room.words in
      let l = inv.words in
      let long = length-area n n us (omega arith) in
      length-take-le tail (queue_in n us) (omega arith)

  next : takings < tail → (w : ℕ) → walk apart (graph_row n width graph) (n - takings) (walk_in n us fs m tail takings w)
      ≡ and_then (expand apart (graph_row n width graph) (walk_in n us fs m tail takings w)) (walk apart (graph_row n width graph) (n - (takings + 1)))
  next h w =
      let short = tail_short in
      let long = queue_long in
      let s : n - takings ≡ suc (n - (takings + 1)) = omega arith in
      ap (λ (k : ℕ). walk apart (graph_row n width graph) k (walk_in n us fs m tail takings w)) s
      ∙ walk_more apart (graph_row n width graph) (n - (takings + 1)) (walk_in n us fs m tail takings w) (omega arith)

  pub walking_more : {us' : List ℕ} {fs' : List Float} {r : Counted} {end : ℕ} → takings < tail → r ≡ Ok end
      → Expanded apart n graph width m takings tail us fs us' fs' r → Walking apart (graph_row n width graph) n m us₀ fs₀ us' fs' (takings + 1) end
  unfolding walk_after SoundAfter BestAfter and_then
  walking_more {us'} {fs'} {r} {end} h e p =
      let q : Expanded apart n graph width m takings tail us fs us' fs' (Ok end) = rw e at p in
      let short = tail_short in
      record {
        left =
            λ (w₀ : ℕ).
            let was = inv.left w₀ in
            let now = q.after was.0 in (
              now.0,
              ap (λ (g : Going Walk). and_then g (walk apart (graph_row n width graph) (n - (takings + 1)))) now.1 ∙ sym (next h was.0) ∙ was.1,
            );
        sound = q.sound;
        best = q.best;
        at = omega arith;
        words = q.words ∙ inv.words;
        floats = q.floats ∙ inv.floats;
      }

  pub walking_unfit : {us' : List ℕ} {fs' : List Float} {r : Counted} {v : NodeId} → takings < tail → r ≡ Err v
      → Expanded apart n graph width m takings tail us fs us' fs' r → (w₀ : ℕ) → WalkedIn (walk apart (graph_row n width graph) n (walk_in n us₀ fs₀ m m 0 w₀)) n m us₀ fs₀ us' fs' r
  unfolding walk_after EndsIn and_then
  walking_unfit {us'} {fs'} {r} {v} h e p w₀ =
      let q : Expanded apart n graph width m takings tail us fs us' fs' (Err v) = rw e at p in
      let was = inv.left w₀ in
      let now = q.after was.0 in
      rw e
      (record {
        ends = sym (ap (λ (g : Going Walk). and_then g (walk apart (graph_row n width graph) (n - (takings + 1)))) now.1 ∙ sym (next h was.0) ∙ was.1);
        words = q.words ∙ inv.words;
        floats = q.floats ∙ inv.floats;
      })

  pub walking_end : tail ≤ takings → (w₀ : ℕ) → WalkedIn (walk apart (graph_row n width graph) n (walk_in n us₀ fs₀ m m 0 w₀)) n m us₀ fs₀ us fs (Ok takings)
  unfolding EndsIn
  walking_end h w₀ =
      let was = inv.left w₀ in
      let long = queue_long in
      record {
        ends = (
          walk_in n us fs m tail takings was.0,
          sym (sym (walk-ended apart (graph_row n width graph) (n - takings) (walk_in n us fs m tail takings was.0) (omega arith)) ∙ was.1),
          refl,
          refl,
        );
        words = inv.words;
        floats = inv.floats;
      }

-- ---- the start and then the walk

module _ (apart : ℕ → Distance) (rows : ℕ → List ℕ) (n k : ℕ) (roots : List ℕ) {us us₁ : List ℕ} {fs fs₁ : List Float} {r : Counted} where
  pub walked_unfit : {v : NodeId} → r ≡ Err v → StartedIn apart n k roots us fs us₁ fs₁ r → WalkedIn (search_of apart rows n k roots) n (min k (length roots)) us fs us₁ fs₁ r
  unfolding StartsIn EndsIn search_of and_then
  walked_unfit {v} e p =
      let q : StartedIn apart n k roots us fs us₁ fs₁ (Err v) = rw e at p in
      rw e
      (record {
        ends = ap (λ (g : Going (List Neighbor)). and_then g (λ (sorted : List Neighbor). walk apart rows n (started n k roots sorted))) q.starts;
        words = q.words;
        floats = q.floats;
      })

  pub walked : {m : ℕ} {us₂ : List ℕ} {fs₂ : List Float} → StartedIn apart n k roots us fs us₁ fs₁ (Ok m) → ((w : ℕ) → WalkedIn (walk apart rows n (walk_in n us₁ fs₁ m m 0 w)) n m us₁ fs₁ us₂ fs₂ r)
      → WalkedIn (search_of apart rows n k roots) n (min k (length roots)) us fs us₂ fs₂ r
  unfolding StartsIn search_of and_then
  walked {m} {us₂} {fs₂} p go =
      let s = p.starts in
      let g = go (length roots) in
      let whole : walk apart rows n (walk_in n us₁ fs₁ m m 0 (length roots)) ≡ and_then (roots_found apart roots []) (λ (sorted : List Neighbor). walk apart rows n (started n k roots sorted)) =
      ap (walk apart rows n) s.2 ∙ sym (ap (λ (h : Going (List Neighbor)). and_then h (λ (sorted : List Neighbor). walk apart rows n (started n k roots sorted))) s.1) in
      record {
        ends = subst (λ (j : ℕ). EndsIn n j (and_then (roots_found apart roots []) (λ (sorted : List Neighbor). walk apart rows n (started n k roots sorted))) us₂ fs₂ r) s.4
            (subst (λ (h : Going Walk). EndsIn n m h us₂ fs₂ r) whole g.ends);
        words = g.words ∙ p.words;
        floats = g.floats ∙ p.floats;
      }
