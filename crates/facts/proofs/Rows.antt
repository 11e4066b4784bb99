-- No row of a build holds a node twice: after step 4, after each reverse link, in the finished graph. Assumes nothing.
use mathlib.Core.Path.{◌≡◌, refl, sym, ap, ◌∙◌, subst}
use mathlib.Core.Bool.{Bool, true, false, cond, true≢false}
use mathlib.Core.List.{List, [], ◌∷◌, ◌++◌}
use Prim.Native.Nat.{ℕ, zero, suc, ◌+◌, ◌-◌, ◌*◌, ◌≤◌, ◌<◌}
use native.Mathlib.Omega.{arith}
use lib.Dec.{eqb}
use lib.ListN.{length, drop, get_or, replicate, length-append, length-map, length-take, length-replicate}
use lib.Ieee.{Float}
use borrow.Author.Tests.{lt-ltb, le-ltb, eqb-true, eqb-false}
use Rattle.rules.specs.declared.Neighbor.{Neighbor}
use Rattle.rules.specs.Loops.{turns, has, part, put_part}
use Rattle.rules.specs.Lists.{neighbor, node_of, nodes_of}
use Rattle.rules.specs.Rows.{is_empty, empty_slot, live, live_nodes, graph_row, finished}
use Rattle.rules.specs.Distance.{between}
use Rattle.rules.specs.Refusals.{Code, no_refusal, Row, Decision, passed, refused, decide, row1, row2, row3, row4, row5, row6, row10}
use Rattle.rules.specs.Calls.{BuildSizes, build_rows}
use Rattle.rules.specs.BuildCall.{BuildLent, build_table, build_obeys, build_rule}
use Rattle.rules.specs.Build.{Between, pruned, pruned_slots, offered, link_back, link, linked_slots, graph_from, graph_of}
use Rattle.rules.proofs.Loops.{length-each, part-each}
use Rattle.lists.specs.All.{All}
use Rattle.lists.proofs.Plain.{all_map}
use Rattle.encoded.proofs.Rows.{length_part, all_get_d}
use Rattle.rules.proofs.Loops.{row_in}
use Rattle.rows.proofs.Laws.{length-live}
use Rattle.offers.specs.Sound.{Sound}
use Rattle.offers.proofs.Laws.{sound-live, sound-part, sound-offered, sound-put, is_empty_lem}
use Rattle.build.proofs.Steps.{sound-slots}
use Rattle.descent_kept.proofs.Lists.{turns_keeps}
use Rattle.facts.specs.Different.{different}
use Rattle.facts.specs.Rows.{SlotRows, GraphRows, BuildRows, CallRows}
use Rattle.facts.proofs.Parts.{length-put, part-put, part-other}
use Rattle.facts.proofs.Once.{Once, length-pruned, once-pruned, length-offered, once-offered}

-- ---- the slots

module _ (n w : ℕ) where
  rows_of : (slots : List Neighbor) → length slots ≡ n * w → Sound n slots → ((q : ℕ) → q < n → Once (live (part w q slots))) → SlotRows n w slots
  unfolding nodes_of
  rows_of slots long sound once =
      record {
        long = long;
        sound = sound;
        below = λ (q : ℕ) (h : q < n). all_map (λ (v : ℕ). v < n) node_of (live (part w q slots)) (sound-live n (part w q slots) (sound-part n w q slots sound));
        once = once;
      }

  module _ (d : Between) (t : Float) (v : ℕ) (below : v < n) where
    offered-back : (e : Neighbor) (slots : List Neighbor) → node_of e < n → has v (nodes_of (live (part w (node_of e) slots))) ≡ false → SlotRows n w slots
        → SlotRows n w (put_part w (node_of e) (offered d t w (neighbor v e.distance) (part w (node_of e) slots)) slots)
    offered-back e slots l new R =
        rows_of (put_part w at now slots) (length-put w at now slots size room ∙ R.long)
        (sound-put n w at now slots (sound-offered n d t w offer row long below (sound-part n w at slots R.sound)) R.sound)
        (λ (q : ℕ) (h : q < n). each_row q h (eqb q at) refl)
      where
        at : ℕ
        at = node_of e

        row : List Neighbor
        row = part w at slots

        offer : Neighbor
        offer = neighbor v e.distance

        now : List Neighbor
        now = offered d t w offer row

        long : length row ≡ w
        long = length_part w n at slots R.long l

        size : length now ≡ w
        size = length-offered d t w offer row long

        room : at * w + w ≤ length slots
        room = let m = row_in n w at l in let s = R.long in omega arith

        each_row : (q : ℕ) → q < n → (b : Bool) → eqb q at ≡ b → Once (live (part w q (put_part w at now slots)))
        each_row q h true g =
            subst (λ (x : ℕ). Once (live (part w x (put_part w at now slots)))) (sym (eqb-true q at g))
            (subst (λ (es : List Neighbor). Once (live es)) (sym (part-put w at now slots size room)) (once-offered d t w offer row long new (R.once at l)))
        each_row q h false g =
            subst (λ (es : List Neighbor). Once (live es)) (sym (part-other w at now slots size room q (eqb-false q at g))) (R.once q h)

    back : (e : Neighbor) (slots : List Neighbor) → node_of e < n → SlotRows n w slots → SlotRows n w (link_back d t w v e slots)
    unfolding link_back
    back e slots l R = go (has v (nodes_of (live (part w (node_of e) slots)))) refl
      where
        go : (b : Bool) → has v (nodes_of (live (part w (node_of e) slots))) ≡ b
            → SlotRows n w (cond b slots (put_part w (node_of e) (offered d t w (neighbor v e.distance) (part w (node_of e) slots)) slots))
        go true h = R
        go false h = offered-back e slots l h R

    pub linked : (i : ℕ) (slots : List Neighbor) → SlotRows n w slots → SlotRows n w (link d t w v i slots)
    unfolding link
    linked i slots R = go (is_empty (get_or slots (i + v) (empty_slot 0))) refl
      where
        node : is_empty (get_or slots (i + v) (empty_slot 0)) ≡ false → node_of (get_or slots (i + v) (empty_slot 0)) < n
        node =
            all_get_d (λ (e : Neighbor). is_empty e ≡ false → node_of e < n) slots (i + v) (empty_slot 0) R.sound
            (λ (h : is_empty (empty_slot 0) ≡ false). absurd (true≢false (sym (is_empty_lem 0) ∙ h)))

        go : (b : Bool) → is_empty (get_or slots (i + v) (empty_slot 0)) ≡ b → SlotRows n w (cond b slots (link_back d t w v (get_or slots (i + v) (empty_slot 0)) slots))
        go true h = R
        go false h = back (get_or slots (i + v) (empty_slot 0)) slots (node h) R

-- ---- step 6

live-rest : (n : ℕ) (vs : List ℕ) (m : ℕ) → All (λ (v : ℕ). v < n) vs → live_nodes n (vs ++ replicate m n) ≡ vs
unfolding live_nodes
live-rest n [] zero B = refl
live-rest n [] (suc m) B = rw (le-ltb n n (omega arith))
live-rest n (v ∷ vs) m B = rw (lt-ltb v n B.0) (ap (λ (l : List ℕ). v ∷ l) (live-rest n vs m B.1))

module _ {n w : ℕ} {slots : List Neighbor} (R : SlotRows n w slots) where
  abbrev nodes_at : ℕ → List ℕ
  nodes_at q = nodes_of (live (part w q slots))

  length-nodes : (q : ℕ) → length (nodes_at q) ≡ length (live (part w q slots))
  unfolding nodes_of
  length-nodes q = length-map (live (part w q slots)) node_of

  length-row : (q : ℕ) → length (finished n w (part w q slots)) ≡ w
  unfolding finished part
  length-row q =
      let a = length-nodes q in
      let b = length-live (part w q slots) in
      let c = length-take w (drop (q * w) slots) in
      let e = length-replicate (w - length (live (part w q slots))) n in
      length-append (nodes_at q) (replicate (w - length (live (part w q slots))) n) ∙ omega arith

  row_is : (q : ℕ) → q < n → part w q (graph_from n w slots) ≡ nodes_at q ++ replicate (w - length (live (part w q slots))) n
  unfolding graph_from finished
  row_is q h = part-each (λ (q : ℕ). finished n w (part w q slots)) w length-row q n h

  nodes_are : (q : ℕ) → q < n → graph_row n w (graph_from n w slots) q ≡ nodes_at q
  unfolding graph_row
  nodes_are q h = ap (live_nodes n) (row_is q h) ∙ live-rest n (nodes_at q) (w - length (live (part w q slots))) (R.below q h)

  graph-rows : GraphRows n w (graph_from n w slots)
  unfolding graph_from
  graph-rows =
      record {
        long = length-each (λ (q : ℕ). finished n w (part w q slots)) w length-row n;
        below = λ (q : ℕ) (h : q < n). subst (All (λ (v : ℕ). v < n)) (sym (nodes_are q h)) (R.below q h);
        once = λ (q : ℕ) (h : q < n). ap different (nodes_are q h) ∙ R.once q h;
        rest =
            λ (q : ℕ) (h : q < n).
            row_is q h ∙ ap (λ (m : ℕ). nodes_at q ++ replicate (w - m) n) (sym (length-nodes q))
            ∙ ap (λ (vs : List ℕ). vs ++ replicate (w - length vs) n) (sym (nodes_are q h));
      }

-- ---- the build

module _ (d : Between) (n : ℕ) (p : BuildSizes) where
  abbrev w : ℕ
  w = p.index_size

  begun : SlotRows n w (pruned_slots d n p)
  unfolding pruned_slots
  begun =
      rows_of n w (pruned_slots d n p) (length-each (pruned d n p) w (length-pruned d n p) n) (sound-slots d n p)
      (λ (q : ℕ) (h : q < n). subst (λ (es : List Neighbor). Once (live es)) (sym (part-each (pruned d n p) w (length-pruned d n p) q n h)) (once-pruned d n p q))

  of_node : (v i : ℕ) → v < n → (slots : List Neighbor) → SlotRows n w slots → SlotRows n w (turns (link d p.threshold w v) i slots)
  of_node v i h slots R =
      turns_keeps (SlotRows n w) (link d p.threshold w v) i (λ (j : ℕ) (s : List Neighbor) (l : j < i) (S : SlotRows n w s). linked n w d p.threshold v h j s S) slots R

  of_nodes : (v : ℕ) → v ≤ n → SlotRows n w (linked_slots d v p (pruned_slots d n p))
  unfolding linked_slots
  of_nodes v h =
      turns_keeps (SlotRows n w) (λ (u : ℕ) (s : List Neighbor). turns (link d p.threshold w u) w s) v
      (λ (u : ℕ) (s : List Neighbor) (l : u < v) (S : SlotRows n w s). of_node u w (omega arith) s S) (pruned_slots d n p) begun

  pub build_rows_lem : BuildRows d n p
  unfolding graph_of
  build_rows_lem =
      record {
        after_step_4 = begun;
        one_link = λ (v i : ℕ) (slots : List Neighbor) (h : v < n) (R : SlotRows n w slots). linked n w d p.threshold v h i slots R;
        each_link = λ (v i : ℕ) (h : v < n). of_node v i h (linked_slots d v p (pruned_slots d n p)) (of_nodes v (omega arith));
        after_step_5 = of_nodes n (omega arith);
        finished = graph-rows (of_nodes n (omega arith));
      }

-- ---- the call

-- what a decision says: 1 where no row holds
abbrev number_of : Decision → ℕ
number_of passed = 1
number_of (refused c) = c.number

decided : (rs : List Row) → All (λ (r : Row). 1 ≤ r.gives.number) rs → 1 ≤ number_of (decide rs)
unfolding decide
decided [] R = omega arith
decided (r ∷ rs) R = go r.test (decided rs R.1)
  where
    go : (b : Bool) → 1 ≤ number_of (decide rs) → 1 ≤ number_of (cond b (refused r.gives) (decide rs))
    go true h = R.0
    go false h = h

module _ (l : BuildLent) where
  numbered : All (λ (r : Row). 1 ≤ r.gives.number) (build_table l)
  unfolding build_table build_rows row1 row2 row3 row4 row5 row6 row10
  numbered = (omega arith, (omega arith, (omega arith, (omega arith, (omega arith, (omega arith, (omega arith, tt)))))))

  pub call_rows : CallRows l
  unfolding build_rule build_obeys
  call_rows = go (decide (build_table l)) (decided (build_table l) numbered)
    where
      go : (x : Decision) → 1 ≤ number_of x → (build_obeys l x).said ≡ no_refusal → GraphRows l.n l.sizes.index_size (build_obeys l x).graph
      go passed m h = (build_rows_lem (between l.lanes l.dimension) l.n l.sizes).finished
      go (refused c) m h = let zero_is : c.number ≡ 0 = ap (λ (c : Code). c.number) h in absurd (omega arith)
