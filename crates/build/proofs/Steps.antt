-- Steps 1 to 6 one behind the other, and what the whole call leaves. Assumes nothing.
use mathlib.Core.Path.{◌≡◌, sym, ap, ◌∙◌, subst}
use mathlib.Core.Bool.{false}
use mathlib.Core.List.{List, map}
use Prim.Native.Nat.{ℕ, ◌-◌, ◌*◌, ◌≤◌, ◌<◌, min}
use native.Mathlib.Omega.{arith}
use lib.ListN.{length, replicate}
use lib.Ieee.{Float}
use Rattle.std.specs.Prelude.{Ok, Err}
use Rattle.rules.specs.Answers.{Answer}
use Rattle.rules.specs.declared.Refusal.{Refusal}
use Rattle.rules.specs.declared.Neighbor.{Neighbor}
use Rattle.rules.specs.Lists.{node_of, entries, sort}
use Rattle.rules.specs.Distance.{between, zero32}
use Rattle.rules.specs.Refusals.{said_of, passed, decide, decision_of}
use Rattle.rules.specs.Calls.{BuildSizes}
use Rattle.rules.specs.Build.{Between, entry, exact_list, candidates, occludes, choose, pruned, pruned_slots, linked_slots, graph_from, graph_of}
use Rattle.rules.specs.BuildCall.{BuildLent, BuildOutcome, build_table, build_obeys, build_rule, build_left}
use Rattle.rules.proofs.Answers.{same_answer}
use Rattle.lists.proofs.Plain.{all_map, all_weaker}
use Rattle.exact.specs.Exact.{Other}
use Rattle.exact.proofs.Laws.{exact_each}
use Rattle.hops.proofs.Laws.{all-candidates}
use Rattle.taught.specs.Taught.{Taught}
use Rattle.prune.specs.Chosen.{AllBelow}
use Rattle.prune.proofs.Laws.{below-sort, below-choose}
use Rattle.pruned.specs.Pruned.{Given}
use Rattle.offers.proofs.Laws.{sound-row_of, sound-each}
use Rattle.offers.specs.Sound.{Sound}
use Rattle.links.specs.Links.{Room, Linked, links_all}
use Rattle.links.proofs.Slots.{linked_slots_lem}
use Rattle.build.specs.Build.{Ready, Sliced, Worked, Built}

-- ---- room in scratch

pub record Fits (n k w words floats : ℕ) : Type 0 where
  pub lists : n * k ≤ words
  pub row : n ≤ floats
  pub dists : n * w ≤ floats
  pub pool : 65 ≤ words

module _ {l : BuildLent} (ready : Ready l) where
  pub fits : Fits l.n l.sizes.init_k l.sizes.index_size (length l.scratch_u) (length l.scratch_f)
  fits =
      let w = ready.words_room in
      let f = ready.floats_room in
      let few = ready.few_nodes in
      record { lists = omega arith; row = omega arith; dists = omega arith; pool = omega arith }

  -- ---- steps 1 to 4

  -- the exact lists, as the pruning is given them
  pub given : {d : Between} {count : ℕ} {su : List ℕ} {sf : List Float} → Taught d l.n l.sizes.init_k l.scratch_u l.scratch_f su sf → count ≡ min l.sizes.init_k (l.n - 1)
      → Given d l.n l.sizes.init_k count l.sizes.neighbor_neighbor_size su
  given {d} {count} {su} {sf} taught e =
      let long = taught.long in
      let room = fits.lists in
      record {
        few = ready.few_nodes;
        most = ready.few_k;
        hops = ready.few_hops;
        fewest = e;
        room = omega arith;
        each = rw e taught.each;
      }

-- ---- step 4 leaves slots that can be linked: every candidate is below n

module _ (d : Between) (n : ℕ) (p : BuildSizes) where
  below : (q : ℕ) → q < n → AllBelow n (map (entry d q) (candidates (exact_list d n p.init_k) p.neighbor_neighbor_size q))
  below q h =
      all_map (λ (e : Neighbor). node_of e < n) (entry d q) (candidates (exact_list d n p.init_k) p.neighbor_neighbor_size q)
      (all-candidates (λ (v : ℕ). v < n) (exact_list d n p.init_k) p.neighbor_neighbor_size q
      (λ (v : ℕ) (g : v < n). all_weaker (Other n v) (λ (i : ℕ). i < n) (λ (i : ℕ) o. o.0) (exact_list d n p.init_k v) (exact_each d n p.init_k v)) h)

  sound-pruned : (q : ℕ) → q < n → Sound n (pruned d n p q)
  unfolding pruned
  sound-pruned q h =
      let es = map (entry d q) (candidates (exact_list d n p.init_k) p.neighbor_neighbor_size q) in
      let f = occludes d p.threshold false in
      sound-row_of n p.index_size (choose f p.index_size (sort es)) (below-choose f p.index_size n (sort es) (below-sort n es (below q h)))

  pub sound-slots : Sound n (pruned_slots d n p)
  unfolding pruned_slots
  sound-slots = sound-each n (pruned d n p) n sound-pruned

-- ---- steps 5 and 6

module _ {l : BuildLent} (ready : Ready l) {graph su : List ℕ} {sf : List Float} (s : Sliced l graph su sf) where
  pub slots-sound : Sound l.n (entries (l.n * l.sizes.index_size) graph sf)
  slots-sound = subst (Sound l.n) (sym s.slots) (sound-slots (between l.lanes l.dimension) l.n l.sizes)

  pub slots-room : {pool : List Float} → length pool ≡ 65 → Room l.n l.sizes.index_size graph sf su pool
  slots-room e =
      let g = s.graph_long in
      let g' = ready.graph_long in
      let w = s.words_long in
      let f = s.floats_long in
      let r = fits ready in
      let dists = r.dists in
      let pool = r.pool in
      let few = ready.few_slots in
      record {
        nodes = omega arith;
        dists = omega arith;
        pool_nodes = omega arith;
        pool_dists = omega arith;
        most = ready.few_nodes;
        wide = ready.few_slots;
        some = ready.some_slots;
      }

  pub worked : {graph₁ graph₂ su₂ : List ℕ} {sf₁ sf₂ : List Float} {a b : ℕ}
      → Linked l.n l.sizes.index_size (links_all (between l.lanes l.dimension) l.n l.sizes.threshold l.sizes.index_size (entries (l.n * l.sizes.index_size) graph sf)) graph₁ sf₁
      → graph₂ ≡ graph_from l.n l.sizes.index_size (entries (l.n * l.sizes.index_size) graph₁ sf₁)
      → a ≡ length su → b ≡ length sf → su₂ ≡ replicate a 0 → sf₂ ≡ replicate b zero32 → Worked l graph₂ su₂ sf₂
  unfolding graph_of
  worked linked finished wl fl w f =
      let d = between l.lanes l.dimension in
      record {
        graph_is =
            finished
            ∙ ap (graph_from l.n l.sizes.index_size) (linked.list ∙ linked_slots_lem d l.n l.sizes _ ∙ ap (linked_slots d l.n l.sizes) s.slots);
        words = w ∙ ap (λ (m : ℕ). replicate m 0) (wl ∙ s.words_long);
        floats = f ∙ ap (λ (m : ℕ). replicate m zero32) (fl ∙ s.floats_long);
      }

-- ---- the whole call

module _ (l : BuildLent) where
  pub built_refused : {a : Answer} {r : Refusal} → decision_of a ≡ decide (build_table l) → a ≡ Err r → Built l (Err r) l.graph l.scratch_u l.scratch_f
  unfolding build_rule build_obeys said_of decision_of
  built_refused {a} {r} e f = record { whole = ap (build_obeys l) (sym (ap decision_of f) ∙ e) }

  pub no_row : {a : Answer} → decision_of a ≡ decide (build_table l) → a ≡ (Ok tt) → decide (build_table l) ≡ passed
  unfolding decision_of
  no_row e f = sym e ∙ ap decision_of f

  pub built_worked : {graph su : List ℕ} {sf : List Float} → decide (build_table l) ≡ passed → Worked l graph su sf → Built l (Ok tt) graph su sf
  unfolding build_rule build_obeys said_of
  built_worked {graph} {su} {sf} e w =
      record {
        whole =
            ap (λ (g : List ℕ). build_left (Ok tt) g su sf) w.graph_is
            ∙ ap (λ (xs : List ℕ). build_left (Ok tt) (graph_of (between l.lanes l.dimension) l.n l.sizes) xs sf) w.words
            ∙ ap (build_left (Ok tt) (graph_of (between l.lanes l.dimension) l.n l.sizes) (replicate (length l.scratch_u) 0)) w.floats
            ∙ ap (build_obeys l) (sym e);
      }

-- ---- "show that any two outcomes it allows are equal"

pub record Same (a b : Answer) (g g' su su' : List ℕ) (sf sf' : List Float) : Type 0 where
  pub answer : a ≡ b
  pub graph : g ≡ g'
  pub scratch_u : su ≡ su'
  pub scratch_f : sf ≡ sf'

pub two_outcomes : (l : BuildLent) (a b : Answer) (g g' su su' : List ℕ) (sf sf' : List Float) → Built l a g su sf → Built l b g' su' sf' → Same a b g g' su su' sf sf'
two_outcomes l a b g g' su su' sf sf' p q =
    let e : build_left a g su sf ≡ build_left b g' su' sf' = p.whole ∙ sym q.whole in
    record {
      answer = same_answer a b (ap (λ (o : BuildOutcome). o.said) e);
      graph = ap (λ (o : BuildOutcome). o.graph) e;
      scratch_u = ap (λ (o : BuildOutcome). o.scratch_u) e;
      scratch_f = ap (λ (o : BuildOutcome). o.scratch_f) e;
    }
