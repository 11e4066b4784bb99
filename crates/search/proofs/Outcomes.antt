-- The walk's answer: what is written to the results, and what the whole call leaves. Assumes nothing.
use mathlib.Core.Path.{◌≡◌, refl, sym, ap, ◌∙◌, subst}
use mathlib.Core.Bool.{not}
use mathlib.Core.List.{List, [], ◌∷◌, ◌++◌, map, map-map}
use Prim.Native.Nat.{ℕ, zero, suc, ◌+◌, ◌-◌, ◌≤◌, ◌<◌, min}
use native.Mathlib.Omega.{arith}
use lib.Dec.{T}
use lib.ListN.{length, take, drop, get_or, replicate}
use lib.Seq.{take-take}
use lib.Ieee.{Float, nan, binary32, is_nan, to_bits}
use Rattle.std.specs.Prelude.{Ok, Err, Some}
use Rattle.rules.specs.Answers.{Answer, SearchAnswer}
use Rattle.rules.specs.declared.NodeId.{NodeId}
use Rattle.rules.specs.declared.Neighbor.{Neighbor}
use Rattle.rules.specs.declared.Refusal.{Refusal}
use Rattle.rules.specs.declared.Refusal.TheVariants.{Pair}
use Rattle.rules.specs.Loops.{over}
use Rattle.rules.specs.Distance.{query_apart, zero32}
use Rattle.rules.specs.Lists.{neighbor, nodes_of, distances_of, bits_of}
use Rattle.rules.specs.Rows.{graph_row}
use Rattle.rules.specs.Refusals.{code_of, passed, decide, decision_of}
use Rattle.rules.specs.Search.{Walk, Going, search_of}
use Rattle.rules.specs.SearchCall.{SearchLent, SearchOutcome, search_said, search_table, search_zeroed, search_ends, search_work, search_obeys, search_rule, search_left}
use Rattle.rules.proofs.Answers.{same_search}
use Rattle.metrics.proofs.Fitness.{query-fit, fit_plain}
use Rattle.lists.proofs.Slices.{nodes_of-entries, distances_of-entries, length-entries, get_d_entries}
use Rattle.expand.specs.Steps.{Counted}
use Rattle.buffers.specs.Area.{area}
use Rattle.expand.specs.Areas.{best_at, best_in, Room}
use Rattle.buffers.proofs.Places.{length-area}
use Rattle.expand.proofs.Sound.{Whenever}
use Rattle.walk.specs.Walks.{EndsIn, WalkedIn}
use Rattle.search.specs.Search.{Ready, Worked, Searched}
use Rattle.search.proofs.Fits.{AllOf, of_at, of_search}

-- ---- the best set is written to the results

map-take : {A B : Type 0} (f : A → B) (m : ℕ) (xs : List A) → take m (map f xs) ≡ map f (take m xs)
map-take f zero xs = refl
map-take f (suc m) [] = refl
map-take {A} {B} f (suc m) (x ∷ xs) = ap (λ (l : List B). f x ∷ l) (map-take f m xs)

bits_of_lem : (es : List Neighbor) → bits_of es ≡ map (to_bits binary32) (distances_of es)
unfolding bits_of distances_of
bits_of_lem es = sym (map-map (to_bits binary32) (λ (e : Neighbor). e.distance) es)

module _ (n m : ℕ) (us : List ℕ) (fs : List Float) (room : Room n us fs) (few : m ≤ 64) where
  -- a part as the code cuts it out
  pub cut : n + n + 64 - (n + n) ≡ 64
  cut = omega arith

  pub nodes_given : (dst : List ℕ) → over m (take (n + n + 64 - (n + n)) (drop (best_at n) us)) dst ≡ over m (nodes_of (best_in n us fs m)) dst
  unfolding over
  nodes_given dst =
      let x = room.floats in
      let fl = length-area (best_at n) 64 fs (omega arith) in
      ap (λ (w : ℕ). take m (take w (drop (best_at n) us)) ++ drop m dst) cut
      ∙ ap (λ (l : List ℕ). l ++ drop m dst)
      (sym (take-take m m (area (best_at n) 64 us) (omega arith)) ∙ ap (take m) (sym (nodes_of-entries m (area (best_at n) 64 us) (area (best_at n) 64 fs) (omega arith))))

  pub bits_given : (dst : List ℕ) → over m (map (to_bits binary32) (take (n + n + 64 - (n + n)) (drop (best_at n) fs))) dst ≡ over m (bits_of (best_in n us fs m)) dst
  unfolding over
  bits_given dst =
      let w = room.words in
      let ul = length-area (best_at n) 64 us (omega arith) in
      ap (λ (k : ℕ). take m (map (to_bits binary32) (take k (drop (best_at n) fs))) ++ drop m dst) cut
      ∙ ap (λ (l : List ℕ). l ++ drop m dst)
      (map-take (to_bits binary32) m (area (best_at n) 64 fs)
      ∙ ap (map (to_bits binary32)) (sym (take-take m m (area (best_at n) 64 fs) (omega arith)))
      ∙ sym (map-take (to_bits binary32) m (take m (area (best_at n) 64 fs)))
      ∙ ap (λ (l : List Float). take m (map (to_bits binary32) l)) (sym (distances_of-entries m (area (best_at n) 64 us) (area (best_at n) 64 fs) (omega arith)))
      ∙ ap (take m) (sym (bits_of_lem (best_in n us fs m))))

-- ---- no distance of the best set is a NaN

abbrev Number : Float → Type 0
Number x = T (not (is_nan x))

numbers : (lanes : List Float) (dimension : ℕ) (query : List Float) (v : ℕ) (x : Float) → query_apart lanes dimension query v ≡ Some x → Number x
unfolding is_nan
numbers lanes dimension query v x e = let p = fit_plain x (query-fit lanes dimension query v x e) in rw p.is tt

module _ (lanes : List Float) (dimension : ℕ) (query : List Float) (rows : ℕ → List ℕ) (n k : ℕ) (roots : List ℕ) where
  abbrev goal : Going Walk
  goal = search_of (query_apart lanes dimension query) rows n k roots

  pub best-numbers : {us us' : List ℕ} {fs fs' : List Float} {r : Counted} {takings m : ℕ} → r ≡ Ok takings → WalkedIn goal n (min k (length roots)) us fs us' fs' r → m ≡ min k (length roots) → Room n us' fs' → m ≤ 64
      → (i : ℕ) → i < m → T (not (is_nan (get_or (area (best_at n) 64 fs') i nan)))
  unfolding EndsIn Whenever
  best-numbers {us} {us'} {fs} {fs'} {r} {takings} {m} e w f room few i h =
      let p : WalkedIn goal n (min k (length roots)) us fs us' fs' (Ok takings) = rw e at w in
      let s = p.ends in
      let all : AllOf Number s.0.best = subst (Whenever (λ (t : Walk). AllOf Number t.best)) s.1 (of_search Number (query_apart lanes dimension query) (numbers lanes dimension query) rows n k roots) in
      let best : s.0.best ≡ best_in n us' fs' m = s.3 ∙ ap (best_in n us' fs') (sym f) in
      let words = room.words in
      let floats = room.floats in
      let ul = length-area (best_at n) 64 us' (omega arith) in
      let fl = length-area (best_at n) 64 fs' (omega arith) in
      let long = length-entries m (area (best_at n) 64 us') (area (best_at n) 64 fs') (omega arith) (omega arith) in
      subst Number (ap (λ (x : Neighbor). x.distance) (get_d_entries m i (area (best_at n) 64 us') (area (best_at n) 64 fs') 0 nan (neighbor 0 nan) h (omega arith) (omega arith)))
      (of_at Number (best_in n us' fs' m) i (neighbor 0 nan) (subst (AllOf Number) best all) (omega arith))

-- ---- the whole call

module _ (l : SearchLent) where
  abbrev walked : Going Walk
  walked = search_of (query_apart l.lanes l.dimension l.query) (graph_row l.n l.index_size l.graph) l.n l.k l.roots

  pub worked-unfit : {us' su : List ℕ} {fs' sf : List Float} {m : ℕ} {r : Counted} {v : NodeId} → r ≡ Err v
      → WalkedIn walked l.n m l.scratch_u l.scratch_f us' fs' r → su ≡ replicate (length us') 0 → sf ≡ replicate (length fs') zero32
      → Worked l (Err (Pair v (record { 0 = l.n }))) l.result_nodes l.result_bits su sf
  unfolding EndsIn search_work search_ends search_zeroed search_said code_of
  worked-unfit {us'} {su} {fs'} {sf} {m} {r} {v} e w p q =
      let d : WalkedIn walked l.n m l.scratch_u l.scratch_f us' fs' (Err v) = rw e at w in
      record {
        whole =
            ap (λ (xs : List ℕ). search_left (Err (Pair v (record { 0 = l.n }))) l.result_nodes l.result_bits xs sf) (p ∙ ap (λ (k : ℕ). replicate k 0) d.words)
            ∙ ap (λ (xs : List Float). search_left (Err (Pair v (record { 0 = l.n }))) l.result_nodes l.result_bits (replicate (length l.scratch_u) 0) xs)
            (q ∙ ap (λ (k : ℕ). replicate k zero32) d.floats)
            ∙ ap (search_ends l) (sym d.ends);
      }

  pub worked-found : {us' su : List ℕ} {fs' sf : List Float} {nodes bits : List ℕ} {m takings : ℕ} {r : Counted} → r ≡ Ok takings
      → WalkedIn walked l.n (min l.k (length l.roots)) l.scratch_u l.scratch_f us' fs' r → m ≡ min l.k (length l.roots)
      → nodes ≡ over m (nodes_of (best_in l.n us' fs' m)) l.result_nodes → bits ≡ over m (bits_of (best_in l.n us' fs' m)) l.result_bits
      → su ≡ replicate (length us') 0 → sf ≡ replicate (length fs') zero32 → Worked l (Ok (record { m = m; takings = takings })) nodes bits su sf
  unfolding EndsIn search_work search_ends search_zeroed search_said
  worked-found {us'} {su} {fs'} {sf} {nodes} {bits} {m} {takings} {r} e w f g h p q =
      let d : WalkedIn walked l.n (min l.k (length l.roots)) l.scratch_u l.scratch_f us' fs' (Ok takings) = rw e at w in
      let s = d.ends in
      let best : best_in l.n us' fs' m ≡ s.0.best = ap (best_in l.n us' fs') f ∙ sym s.3 in
      record {
        whole =
            ap (λ (xs : List ℕ). search_left (Ok (record { m = m; takings = takings })) nodes bits xs sf) (p ∙ ap (λ (k : ℕ). replicate k 0) d.words)
            ∙ ap (λ (xs : List Float). search_left (Ok (record { m = m; takings = takings })) nodes bits (replicate (length l.scratch_u) 0) xs) (q ∙ ap (λ (k : ℕ). replicate k zero32) d.floats)
            ∙ ap (λ (xs : List ℕ). search_left (Ok (record { m = m; takings = takings })) xs bits (replicate (length l.scratch_u) 0) (replicate (length l.scratch_f) zero32))
            (g ∙ ap (λ (es : List Neighbor). over m (nodes_of es) l.result_nodes) best)
            ∙ ap (λ (xs : List ℕ). search_left (Ok (record { m = m; takings = takings })) (over m (nodes_of s.0.best) l.result_nodes) xs (replicate (length l.scratch_u) 0) (replicate (length l.scratch_f) zero32))
            (h ∙ ap (λ (es : List Neighbor). over m (bits_of es) l.result_bits) best)
            ∙ ap (λ (t : ℕ). search_left (Ok (record { m = m; takings = t })) (over m (nodes_of s.0.best) l.result_nodes) (over m (bits_of s.0.best) l.result_bits) (replicate (length l.scratch_u) 0) (replicate (length l.scratch_f) zero32))
            (sym s.2)
            ∙ ap (λ (k : ℕ). search_left (Ok (record { m = k; takings = s.0.takings })) (over k (nodes_of s.0.best) l.result_nodes) (over k (bits_of s.0.best) l.result_bits) (replicate (length l.scratch_u) 0) (replicate (length l.scratch_f) zero32))
            f
            ∙ ap (search_ends l) (sym s.1);
      }

  pub searched_refused : {a : Answer} {r : Refusal} → decision_of a ≡ decide (search_table l) → a ≡ Err r
      → Searched l (Err r) l.result_nodes l.result_bits l.scratch_u l.scratch_f
  unfolding search_rule search_obeys search_said decision_of
  searched_refused {a} {r} e f = record { whole = ap (search_obeys l) (sym (ap decision_of f) ∙ e) }

  pub no_row : {a : Answer} → decision_of a ≡ decide (search_table l) → a ≡ (Ok tt) → decide (search_table l) ≡ passed
  unfolding decision_of
  no_row e f = sym e ∙ ap decision_of f

  pub searched_worked : {r : SearchAnswer} {nodes bits su : List ℕ} {sf : List Float} → decide (search_table l) ≡ passed → Worked l r nodes bits su sf → Searched l r nodes bits su sf
  unfolding search_rule search_obeys
  searched_worked e w = record { whole = w.whole ∙ ap (search_obeys l) (sym e) }

-- ---- "show that any two outcomes it allows are equal"

pub record Same (a b : SearchAnswer) (ns ns' bs bs' su su' : List ℕ) (sf sf' : List Float) : Type 0 where
  pub answer : a ≡ b
  pub nodes : ns ≡ ns'
  pub bits : bs ≡ bs'
  pub scratch_u : su ≡ su'
  pub scratch_f : sf ≡ sf'

pub two_outcomes : (l : SearchLent) (a b : SearchAnswer) (nodes nodes' bits bits' su su' : List ℕ) (sf sf' : List Float)
    → Searched l a nodes bits su sf → Searched l b nodes' bits' su' sf' → Same a b nodes nodes' bits bits' su su' sf sf'
two_outcomes l a b nodes nodes' bits bits' su su' sf sf' p q =
    let e : search_left a nodes bits su sf ≡ search_left b nodes' bits' su' sf' = p.whole ∙ sym q.whole in
    record {
      answer = same_search a b (ap (λ (o : SearchOutcome). o.said) e);
      nodes = ap (λ (o : SearchOutcome). o.result_nodes) e;
      bits = ap (λ (o : SearchOutcome). o.result_bits) e;
      scratch_u = ap (λ (o : SearchOutcome). o.scratch_u) e;
      scratch_f = ap (λ (o : SearchOutcome). o.scratch_f) e;
    }

-- ---- room for the walk's areas

pub ready-room : (l : SearchLent) → Ready l → Room l.n l.scratch_u l.scratch_f
ready-room l ready =
    let w = ready.words_room in
    let f = ready.floats_room in
    record { words = omega arith; floats = omega arith }
