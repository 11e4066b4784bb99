-- "no node joins the queue twice": a walk with a limit of n takings ends with an empty queue, so that the limit is none. Assumes nothing.
use mathlib.Core.Path.{◌≡◌, refl, ◌∙◌}
use mathlib.Core.Bool.{Bool, true, false, cond}
use mathlib.Core.List.{List, [], ◌∷◌}
use Prim.Native.Nat.{ℕ, zero, suc, ◌+◌, ◌≤◌, ◌<◌}
use native.Mathlib.Omega.{arith}
use borrow.Author.Tests.{ltb-true, ltb-false}
use lib.Dec.{ltb}
use lib.ListN.{length, take, get_or, replicate, length-replicate, length-take}
use Rattle.rules.specs.Answers.{Distance}
use Rattle.rules.specs.declared.Neighbor.{Neighbor}
use Rattle.rules.specs.Lists.{nodes_of}
use Rattle.rules.specs.Rows.{graph_row}
use Rattle.rules.specs.Search.{Walk, on, Found, Taken, and_then, visits, roots_found, started, joins, too_far, take_these, row_ended, expand, walk, search_of}
use Rattle.lists.proofs.Plain.{length-nodes}
use Rattle.expand.specs.Queue.{ones, AllBelow}
use Rattle.expand.proofs.Sound.{ones-most, below-live, Whenever, whenever_then, Grown, grown_visits, queued_these, joined-long}
use Rattle.walk.specs.Walks.{Roots}
use Rattle.walk.proofs.Marks.{marks-long, marks-count, found_long, all-below}
use Rattle.walk.proofs.Walking.{nothing-below, cut_below}

-- as many nodes joined as are seen at most, all below n
record Sound (n : ℕ) (s : Walk) : Type 0 where
  long : length s.seen ≡ n
  few : length s.queue ≤ ones s.seen
  below : AllBelow n s.queue
  taken : s.takings ≤ length s.queue

at_first : (n k : ℕ) (roots : List ℕ) (sorted : List Neighbor) → Roots n roots → AllBelow n (nodes_of sorted) × (length sorted ≡ length roots) → Sound n (started n k roots sorted)
unfolding started
at_first n k roots sorted fine b =
    let zeros : length (replicate {A = ℕ} n 0) ≡ n = length-replicate n 0 in
    let count = marks-count n roots fine in
    let nodes = length-nodes (take k sorted) in
    let cut = length-take k sorted in
    let all = b.1 in
    record {
      long = marks-long roots (replicate n 0) ∙ zeros;
      few = omega arith;
      below = cut_below n k sorted b.0;
      taken = omega arith;
    }

-- the queue only grows
queue_grows : (es : List Neighbor) (t : Taken) → length t.queue ≤ length (take_these es t).queue
unfolding take_these
queue_grows [] t = omega arith
queue_grows (e ∷ es) t = go (too_far e t.best) (queue_grows es (joins e t))
  where
    go : (b : Bool) → length (joins e t).queue ≤ length (take_these es (joins e t)).queue → length t.queue ≤ length (cond b t (take_these es (joins e t))).queue
    go true h = omega arith
    go false h = let one = joined-long e t in omega arith

module _ (apart : ℕ → Distance) (rows : ℕ → List ℕ) (n : ℕ) (inside : (v : ℕ) → AllBelow n (rows v)) where
  sound-expand : (s : Walk) → Sound n s → s.takings < length s.queue → Whenever (λ (t : Walk). Sound n t × (t.takings ≡ suc s.takings)) (expand apart rows s)
  unfolding expand Whenever row_ended
  sound-expand s p h =
      let f₀ : Found = record { seen = s.seen; entries = []; worked = s.worked } in
      whenever_then (Grown n f₀) (λ (t : Walk). Sound n t × (t.takings ≡ suc s.takings)) (visits apart (rows (get_or s.queue s.takings 0)) f₀) (λ (f : Found). on (row_ended s f))
      (grown_visits apart n f₀ (rows (get_or s.queue s.takings 0)) f₀ (inside (get_or s.queue s.takings 0)) (record { long = p.long; count = refl; below = nothing-below n }))
      (λ (f : Found) g. ended f g)
    where
      ended : (f : Found) → Grown n (record { seen = s.seen; entries = []; worked = s.worked }) f → Sound n (row_ended s f) × (suc s.takings ≡ suc s.takings)
      ended f g =
          let q = queued_these n f.entries (record { best = s.best; queue = s.queue }) g.below p.below in
          let most = q.most in
          let count = g.count in
          let few = p.few in (
            record { long = g.long; few = omega arith; below = q.below; taken = joined f },
            refl,
          )
        where
          joined : (f : Found) → suc s.takings ≤ length (take_these f.entries (record { best = s.best; queue = s.queue })).queue
          joined f = let grows = queue_grows f.entries (record { best = s.best; queue = s.queue }) in omega arith

  -- whoever has been taken stays in the queue
  sound-walk : (limit : ℕ) (s : Walk) → Sound n s → n ≤ s.takings + limit → Whenever (λ (t : Walk). t.takings ≡ length t.queue) (walk apart rows limit s)
  unfolding walk Whenever
  sound-walk zero s p h =
      let few = p.few in
      let most = ones-most s.seen in
      let long = p.long in
      let taken = p.taken in
      omega arith
  sound-walk (suc limit) s p h = go (ltb s.takings (length s.queue)) refl (sound-walk limit)
    where
      go : (b : Bool) → ltb s.takings (length s.queue) ≡ b → ((t : Walk) → Sound n t → n ≤ t.takings + limit → Whenever (λ (t : Walk). t.takings ≡ length t.queue) (walk apart rows limit t))
          → Whenever (λ (t : Walk). t.takings ≡ length t.queue) (cond b (and_then (expand apart rows s) (walk apart rows limit)) (on s))
      go true e more =
          whenever_then (λ (t : Walk). Sound n t × (t.takings ≡ suc s.takings)) (λ (t : Walk). t.takings ≡ length t.queue) (expand apart rows s) (walk apart rows limit)
          (sound-expand s p (ltb-true s.takings (length s.queue) e))
          (λ (t : Walk) q. more t q.0 (let one = q.1 in omega arith))
      go false e more =
          let left = ltb-false s.takings (length s.queue) e in
          let taken = p.taken in
          omega arith

  pub enough : (k : ℕ) (roots : List ℕ) → Roots n roots → Whenever (λ (t : Walk). t.takings ≡ length t.queue) (search_of apart rows n k roots)
  unfolding search_of started
  enough k roots fine =
      whenever_then (λ (es : List Neighbor). AllBelow n (nodes_of es) × (length es ≡ length roots + 0)) (λ (t : Walk). t.takings ≡ length t.queue) (roots_found apart roots [])
      (λ (sorted : List Neighbor). walk apart rows n (started n k roots sorted)) (found_long apart n roots [] (all-below n roots fine.below) (nothing-below n))
      (λ (sorted : List Neighbor) b. sound-walk n (started n k roots sorted) (begun sorted b) (omega arith))
    where
      begun : (sorted : List Neighbor) → AllBelow n (nodes_of sorted) × (length sorted ≡ length roots + 0) → Sound n (started n k roots sorted)
      begun sorted b = at_first n k roots sorted fine (b.0, let all = b.1 in omega arith)

-- of any graph: the live part of a row holds nodes below n
pub enough_graph : (apart : ℕ → Distance) (n width : ℕ) (graph : List ℕ) (k : ℕ) (roots : List ℕ) → Roots n roots → Whenever (λ (t : Walk). t.takings ≡ length t.queue) (search_of apart (graph_row n width graph) n k roots)
unfolding graph_row
enough_graph apart n width graph k roots fine = enough apart (graph_row n width graph) n (λ (v : ℕ). below-live n _) k roots fine
