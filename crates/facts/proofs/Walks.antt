-- What a search that meets no unfit distance leaves: each step of the walk keeps it. Assumes nothing.
use mathlib.Core.Path.{◌≡◌, refl, sym, ap, ◌∙◌, subst}
use mathlib.Core.Logic.{◌⊎◌, inl, inr}
use mathlib.Core.Bool.{Bool, true, false, cond, ◌||◌}
use mathlib.Core.List.{List, [], append-nil}
use Prim.Native.Nat.{ℕ, zero, suc, ◌+◌, ◌≤◌, ◌<◌, min}
use native.Mathlib.Omega.{arith}
use borrow.Author.Tests.{ltb-true}
use lib.Dec.{ltb}
use lib.ListN.{length, take, get_or, replicate, length-replicate, length-map, length-take}
use lib.Ieee.{Float, binary32, to_bits, lt}
use Rattle.std.specs.Prelude.{Some, None}
use Rattle.rules.specs.Answers.{Distance}
use Rattle.rules.specs.declared.Neighbor.{Neighbor}
use Rattle.rules.specs.Loops.{through, has}
use Rattle.rules.specs.Distance.{zero32, query_apart}
use Rattle.rules.specs.Lists.{neighbor, node_of, nodes_of}
use Rattle.rules.specs.Rows.{graph_row}
use Rattle.rules.specs.Search.{Walk, on, Found, Taken, and_then, mark, is_seen, visits, roots_found, started, farthest, take_these, row_ended, expand, walk, search_of}
use Rattle.neighbor.specs.Holdable.{Holdable}
use Rattle.neighbor.proofs.Bits.{bits-lt, holdable_fit}
use Rattle.metrics.proofs.Fitness.{query-fit, query-fits}
use Rattle.lists.specs.All.{All}
use Rattle.lists.specs.Ascending.{Perm}
use Rattle.lists.proofs.Perm.{perm_length}
use Rattle.lists.proofs.Plain.{all-at, all_of, all_take, all_perm, all_map, all_weaker}
use Rattle.lists.proofs.Laws.{ascending-take}
use Rattle.steps.proofs.Formed.{of_ascending}
use Rattle.hops.specs.Hops.{flags_of}
use Rattle.hops.proofs.Laws.{seen-taken}
use Rattle.expand.specs.Queue.{ones, AllBelow}
use Rattle.expand.proofs.Near.{Answers, farthest-held}
use Rattle.expand.proofs.Sound.{ones-most, below-live, Whenever, whenever_then}
use Rattle.walk.specs.Walks.{Roots}
use Rattle.walk.proofs.Marks.{marks-long, marks-count, all-below}
use Rattle.walk.proofs.Enough.{enough}
use Rattle.facts.specs.Different.{different}
use Rattle.facts.specs.Walks.{FitAnswers, Measured, BestSet, Walked}
use Rattle.facts.proofs.Different.{has_perm, has-each, different_perm, nodes-append}
use Rattle.facts.proofs.Rising.{rising_of}
use Rattle.facts.proofs.WalksLists.{or_right, all_in, not_in, different-append, different_places, different-take}
use Rattle.facts.proofs.WalksBest.{Best, Nearest, Ended, all_back, held, nearest-first, these, these_best, these_queue, these_different, these_once}
use Rattle.facts.proofs.WalksVisits.{Fresh, Sorted, fresh-visits, sorted_roots}

-- ---- the distance to a query

pub query-answers-fit : (lanes : List Float) (dimension : ℕ) (query : List Float) → FitAnswers (query_apart lanes dimension query)
query-answers-fit lanes dimension query = record { single = query-fits lanes dimension query; fits = query-fit lanes dimension query }

answers_of : {apart : ℕ → Distance} → FitAnswers apart → Answers apart
answers_of F v x e = holdable_fit x (F.single v x e) (F.fits v x e)

-- ---- the state of a walk

abbrev Known : ℕ → List ℕ → ℕ → Type 0
Known n seen v = (v < n) × (is_seen v seen ≡ true)

record Sound (apart : ℕ → Distance) (n m : ℕ) (roots : List ℕ) (s : Walk) : Type 0 where
  long : length s.seen ≡ n
  worked : s.worked ≡ ones s.seen
  roots_known : All (Known n s.seen) roots
  queue_known : All (Known n s.seen) s.queue
  once : different s.queue ≡ true
  best : Best apart n m s.best
  best_known : All (λ (e : Neighbor). Known n s.seen (node_of e)) s.best
  others : different (nodes_of s.best) ≡ true
  nearest : (v : ℕ) → v < n → is_seen v s.seen ≡ true → Nearest apart s.best v

-- ---- the start

-- the flags of the roots
flag_is : (n : ℕ) (roots : List ℕ) (v : ℕ) → v < n → is_seen v (through mark roots (replicate n 0)) ≡ has v roots
unfolding flags_of
flag_is n roots v h =
    let flags = through mark roots (replicate n 0) in
    let long : length (through mark roots (replicate n 0)) ≡ n = marks-long roots (replicate n 0) ∙ length-replicate n 0 in
    seen-taken flags roots v (ap (λ (k : ℕ). through mark roots (replicate k 0)) (sym long)) (omega arith)

module _ (apart : ℕ → Distance) (n : ℕ) (fine : Answers apart) where
  sound_start : (k : ℕ) (roots : List ℕ) (sorted : List Neighbor) → 1 ≤ k → Roots n roots → Sorted apart n roots [] sorted → Sound apart n (min k (length roots)) roots (started n k roots sorted)
  unfolding started nodes_of
  sound_start k roots sorted some R S =
      let flags = through mark roots (replicate n 0) in
      let p : Perm roots (nodes_of sorted) = subst (λ (l : List ℕ). Perm l (nodes_of sorted)) (append-nil roots) S.perm in
      let zeros : length (replicate {A = ℕ} n 0) ≡ n = length-replicate n 0 in
      let count = perm_length p in
      let nodes = length-map sorted node_of in
      let cut = length-take k sorted in
      let root = R.some in
      let known : All (Known n flags) roots =
      all_of (Known n flags) roots 0
      (λ (i : ℕ) h. (R.below i h, flag_is n roots (get_or roots i 0) (R.below i h) ∙ all-at (λ (v : ℕ). has v roots ≡ true) roots i 0 (all_in roots) h)) in
      let first : All (λ (e : Neighbor). Known n flags (node_of e)) (take k sorted) =
      all_take (λ (e : Neighbor). Known n flags (node_of e)) k sorted (all_back (Known n flags) node_of sorted (all_perm (Known n flags) p known)) in
      let other : different (nodes_of (take k sorted)) ≡ true = different-take k sorted (sym (different_perm p) ∙ different_places roots R.different) in
      let near : All (Nearest apart (take k sorted)) (nodes_of sorted) =
      all_map (Nearest apart (take k sorted)) node_of sorted (nearest-first apart n fine k sorted some (omega arith) S.measured S.ascends) in
      record {
        long = marks-long roots (replicate n 0) ∙ zeros;
        worked = sym (marks-count n roots R);
        roots_known = known;
        queue_known = all_map (Known n flags) node_of (take k sorted) first;
        once = other;
        best = record { long = cut ∙ ap (min k) (sym nodes ∙ sym count); measured = all_take (Measured apart n) k sorted S.measured; ascends = ascending-take k sorted S.ascends };
        best_known = first;
        others = other;
        nearest = λ (v : ℕ) h e. has-each v (Nearest apart (take k sorted)) (nodes_of sorted) near (sym (has_perm v p) ∙ sym (flag_is n roots v h) ∙ e);
      }

  -- ---- a node is expanded

  fresh_none : (s : Walk) (m : ℕ) (roots : List ℕ) → Sound apart n m roots s → Fresh apart n s.seen (record { seen = s.seen; entries = []; worked = s.worked })
  unfolding nodes_of has different
  fresh_none s m roots S =
      record { long = S.long; worked = S.worked; measured = tt; ascends = tt; unseen = tt; others = refl; seen = λ (v : ℕ) h. refl }

  module _ (m : ℕ) (some : 1 ≤ m) (roots : List ℕ) (s : Walk) (S : Sound apart n m roots s) (f : Found) (F : Fresh apart n s.seen f) where
    -- what was seen is seen, and so is what was found
    known_still : (v : ℕ) → Known n s.seen v → Known n f.seen v
    known_still v k = (k.0, F.seen v k.0 ∙ or_right (has v (nodes_of f.entries)) (is_seen v s.seen) k.1)

    known-found : All (λ (e : Neighbor). Known n f.seen (node_of e)) f.entries
    unfolding nodes_of
    known-found =
        all_of (λ (e : Neighbor). Known n f.seen (node_of e)) f.entries (neighbor 0 zero32)
        (λ (i : ℕ) h.
        let e = get_or f.entries i (neighbor 0 zero32) in
        let below = (all-at (Measured apart n) f.entries i (neighbor 0 zero32) F.measured h).below in
        let here = all-at (λ (d : Neighbor). has (node_of d) (nodes_of f.entries) ≡ true) f.entries i (neighbor 0 zero32)
        (all_back (λ (v : ℕ). has v (nodes_of f.entries) ≡ true) node_of f.entries (all_in (nodes_of f.entries))) h in
        (below, F.seen (node_of e) below ∙ ap (λ (b : Bool). b || is_seen (node_of e) s.seen) here))

    -- what was seen was not found
    not_found : (v : ℕ) → Known n s.seen v → has v (nodes_of f.entries) ≡ false
    not_found v k = not_in (λ (w : ℕ). is_seen w s.seen) v (nodes_of f.entries) k.1 F.unseen

    abbrev before-row : Taken
    before-row = record { best = s.best; queue = s.queue }

    row-nearest : (v : ℕ) → v < n → is_seen v f.seen ≡ true → Nearest apart (take_these f.entries before-row).best v
    unfolding nodes_of
    row-nearest v h e = go (has v (nodes_of f.entries)) refl (sym (F.seen v h) ∙ e)
      where
        ends : Ended apart n m f.entries before-row (take_these f.entries before-row)
        ends = these apart n fine m some f.entries before-row F.measured F.ascends S.best

        go : (b : Bool) → has v (nodes_of f.entries) ≡ b → (b || is_seen v s.seen) ≡ true → Nearest apart (take_these f.entries before-row).best v
        go true a g =
            has-each v (Nearest apart (take_these f.entries before-row).best) (nodes_of f.entries)
            (all_map (Nearest apart (take_these f.entries before-row).best) node_of f.entries ends.found) a
        go false a g = ends.kept v (S.nearest v h g)

    row-ended : Sound apart n m roots (row_ended s f)
    unfolding row_ended nodes_of
    row-ended =
        let best_others : All (λ (v : ℕ). has v (nodes_of f.entries) ≡ false) (nodes_of s.best) =
        all_map (λ (v : ℕ). has v (nodes_of f.entries) ≡ false) node_of s.best
        (all_weaker (λ (e : Neighbor). Known n s.seen (node_of e)) (λ (e : Neighbor). has (node_of e) (nodes_of f.entries) ≡ false) (λ (e : Neighbor) k. not_found (node_of e) k) s.best S.best_known) in
        record {
          long = F.long;
          worked = F.worked;
          roots_known = all_weaker (Known n s.seen) (Known n f.seen) known_still roots S.roots_known;
          queue_known =
              these_queue (Known n f.seen) f.entries before-row (all_map (Known n f.seen) node_of f.entries known-found)
              (all_weaker (Known n s.seen) (Known n f.seen) known_still s.queue S.queue_known);
          once =
              these_once f.entries before-row
              (different-append s.queue (nodes_of f.entries) S.once F.others
              (all_weaker (Known n s.seen) (λ (v : ℕ). has v (nodes_of f.entries) ≡ false) not_found s.queue S.queue_known));
          best = (these apart n fine m some f.entries before-row F.measured F.ascends S.best).best;
          best_known =
              these_best (λ (e : Neighbor). Known n f.seen (node_of e)) f.entries before-row known-found
              (all_weaker (λ (e : Neighbor). Known n s.seen (node_of e)) (λ (e : Neighbor). Known n f.seen (node_of e)) (λ (e : Neighbor) k. known_still (node_of e) k) s.best S.best_known);
          others =
              these_different f.entries before-row
              (ap different (nodes-append s.best f.entries) ∙ different-append (nodes_of s.best) (nodes_of f.entries) S.others F.others best_others);
          nearest = row-nearest;
        }

  -- ---- the walk

  module _ (rows : ℕ → List ℕ) (inside : (v : ℕ) → AllBelow n (rows v)) (m : ℕ) (some : 1 ≤ m) (roots : List ℕ) where
    sound-expand : (s : Walk) → Sound apart n m roots s → Whenever (λ (t : Walk). Sound apart n m roots t × (t.takings ≡ suc s.takings)) (expand apart rows s)
    unfolding expand Whenever row_ended
    sound-expand s S =
        let f₀ : Found = record { seen = s.seen; entries = []; worked = s.worked } in
        whenever_then (Fresh apart n s.seen) (λ (t : Walk). Sound apart n m roots t × (t.takings ≡ suc s.takings)) (visits apart (rows (get_or s.queue s.takings 0)) f₀) (λ (f : Found). on (row_ended s f))
        (fresh-visits apart n fine s.seen (rows (get_or s.queue s.takings 0)) f₀ (inside (get_or s.queue s.takings 0)) (fresh_none s m roots S))
        (λ (f : Found) F. (row-ended m some roots s S f F, refl))

    sound-walk : (limit : ℕ) (s : Walk) → Sound apart n m roots s → Whenever (λ (t : Walk). Sound apart n m roots t × (t.takings ≤ s.takings + limit)) (walk apart rows limit s)
    unfolding walk Whenever
    sound-walk zero s S = (S, omega arith)
    sound-walk (suc limit) s S = go (ltb s.takings (length s.queue)) (λ (t : Walk) T. sound-walk limit t T)
      where
        go : (b : Bool) → ((t : Walk) → Sound apart n m roots t → Whenever (λ (u : Walk). Sound apart n m roots u × (u.takings ≤ t.takings + limit)) (walk apart rows limit t))
            → Whenever (λ (t : Walk). Sound apart n m roots t × (t.takings ≤ s.takings + suc limit)) (cond b (and_then (expand apart rows s) (walk apart rows limit)) (on s))
        go true more =
            whenever_then (λ (t : Walk). Sound apart n m roots t × (t.takings ≡ suc s.takings)) (λ (t : Walk). Sound apart n m roots t × (t.takings ≤ s.takings + suc limit)) (expand apart rows s) (walk apart rows limit)
            (sound-expand s S)
            (λ (t : Walk) q. subst (λ (k : ℕ). Whenever (λ (u : Walk). Sound apart n m roots u × (u.takings ≤ k)) (walk apart rows limit t)) (let one = q.1 in let e : t.takings + limit ≡ s.takings + suc limit = omega arith in e) (more t q.0))
        go false more = (S, omega arith)

  sound_search : (rows : ℕ → List ℕ) → ((v : ℕ) → AllBelow n (rows v)) → (k : ℕ) (roots : List ℕ) → 1 ≤ k → Roots n roots
      → Whenever (λ (t : Walk). Sound apart n (min k (length roots)) roots t × (t.takings ≤ n)) (search_of apart rows n k roots)
  unfolding search_of started Whenever
  sound_search rows inside k roots some R =
      let root = R.some in
      whenever_then (Sorted apart n roots []) (λ (t : Walk). Sound apart n (min k (length roots)) roots t × (t.takings ≤ n)) (roots_found apart roots [])
      (λ (sorted : List Neighbor). walk apart rows n (started n k roots sorted)) (sorted_roots apart n fine roots [] (all-below n roots R.below) tt tt)
      (λ (sorted : List Neighbor) S.
      subst (λ (k' : ℕ). Whenever (λ (t : Walk). Sound apart n (min k (length roots)) roots t × (t.takings ≤ k')) (walk apart rows n (started n k roots sorted))) (let e : 0 + n ≡ n = omega arith in e)
      (sound-walk rows inside (min k (length roots)) (omega arith) roots n (started n k roots sorted) (sound_start k roots sorted some R S)))

-- ---- the answer

module _ (apart : ℕ → Distance) (n : ℕ) (fit_answers : FitAnswers apart) where
  answer_of_lem : (m : ℕ) (xs : List Neighbor) → Best apart n m xs → different (nodes_of xs) ≡ true → BestSet apart n m xs
  answer_of_lem m xs B d =
      record {
        long = B.long;
        ascends = of_ascending xs B.ascends;
        rises = rising_of xs (held apart n (answers_of fit_answers) xs B.measured) B.ascends d;
        different = d;
        measured = B.measured;
      }

  nearer : (best : List Neighbor) (v : ℕ) (x : Float) → Holdable (farthest best) → apart v ≡ Some x → lt x (farthest best) ≡ true → Nearest apart best v → has v (nodes_of best) ≡ true
  nearer best v x F q h N = go (N x q)
    where
      go : (has v (nodes_of best) ≡ true) ⊎ (to_bits binary32 (farthest best) ≤ to_bits binary32 x) → has v (nodes_of best) ≡ true
      go (inl g) = g
      go (inr g) =
          let l = ltb-true (to_bits binary32 x) (to_bits binary32 (farthest best)) (sym (bits-lt x (farthest best) (answers_of fit_answers v x q) F) ∙ h) in
          absurd (omega arith)

  -- whatever the rows, as long as their members are below n
  pub walked : (rows : ℕ → List ℕ) → ((v : ℕ) → AllBelow n (rows v)) → (k : ℕ) (roots : List ℕ) → 1 ≤ k → Roots n roots → (s : Walk) → search_of apart rows n k roots ≡ on s → Walked apart n k roots s
  unfolding Whenever
  walked rows inside k roots some R s e =
      let p = subst (Whenever (λ (t : Walk). Sound apart n (min k (length roots)) roots t × (t.takings ≤ n))) e (sound_search apart n (answers_of fit_answers) rows inside k roots some R) in
      let S = p.0 in
      let root = R.some in
      let long = S.long in
      let worked = S.worked in
      let most = ones-most s.seen in
      let m = S.best.long in
      record {
        answer = answer_of_lem (min k (length roots)) s.best S.best S.others;
        taken = subst (Whenever (λ (t : Walk). t.takings ≡ length t.queue)) e (enough apart rows n inside k roots R);
        once = S.once;
        takings = p.1;
        worked = worked;
        works = omega arith;
        roots_seen = λ (i : ℕ) h. (all-at (Known n s.seen) roots i 0 S.roots_known h).1;
        nearest = λ (v : ℕ) (x : Float) h g q l.
            nearer s.best v x (farthest-held s.best (omega arith) (held apart n (answers_of fit_answers) s.best S.best.measured)) q l (S.nearest v h g);
      }

  -- of any graph: "any graph contents are legal"
  pub walked_graph : (width : ℕ) (graph : List ℕ) (k : ℕ) (roots : List ℕ) → 1 ≤ k → Roots n roots → (s : Walk) → search_of apart (graph_row n width graph) n k roots ≡ on s → Walked apart n k roots s
  unfolding graph_row
  walked_graph width graph k roots some R s e = walked (graph_row n width graph) (λ (v : ℕ). below-live n _) k roots some R s e
