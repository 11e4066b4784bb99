-- Laws of the slots over plain lists: a row put back among them, one link, and the turns of the links. Assumes nothing.
use mathlib.Core.Path.{◌≡◌, refl, sym, ap, ◌∙◌, subst}
use mathlib.Core.Bool.{true, false}
use mathlib.Core.List.{List, ◌++◌}
use Prim.Native.Nat.{ℕ, zero, suc, ◌+◌, ◌-◌, ◌*◌, ◌≤◌, ◌<◌, zero-le}
use native.Mathlib.Nat.{suc-mul}
use native.Mathlib.Omega.{arith}
use lib.ListN.{length, take, drop, get_or, length-drop}
use lib.Seq.{length-take-le, drop-drop}
use lib.Ieee.{Float}
use borrow.Rule.Slice.PartMut.{mid_of, put_mid}
use Rattle.rules.specs.declared.Neighbor.{Neighbor}
use Rattle.rules.specs.Loops.{turns, has, part, put_part}
use Rattle.rules.specs.Lists.{neighbor, node_of, nodes_of, entries}
use Rattle.rules.specs.Rows.{is_empty, empty_slot, live}
use Rattle.rules.specs.Build.{Between, slot_read, offered, link_back, link, linked_slots}
use Rattle.rules.specs.Calls.{BuildSizes}
use Rattle.rules.proofs.Loops.{turns_turn, row_in}
use Rattle.lists.proofs.Slices.{length-entries, entries-take, take-entries, nodes_of-entries}
use Rattle.lists.proofs.Plain.{all-at}
use Rattle.rows.specs.Live.{LiveIn}
use Rattle.rows.proofs.Laws.{entries-append, entries_from, part-entries}
use Rattle.offers.specs.Sound.{Sound}
use Rattle.offers.proofs.Laws.{sound-offered, sound-part, sound-put}
use Rattle.links.specs.Links.{Linked, links_of, links_all}

-- ---- a row is lent, k places from q * w on, and comes back: the entries are those with part q replaced

pub put_entries : (w q m : ℕ) (ns ys : List ℕ) (ds zs : List Float) → q * w + w ≤ m → m ≤ length ns → m ≤ length ds → length ys ≡ w → length zs ≡ w
    → entries m (put_mid (q * w) w ns ys) (put_mid (q * w) w ds zs) ≡ put_part w q (entries w ys zs) (entries m ns ds)
unfolding put_part
put_entries w q m ns ys ds zs h k g y z =
    let a = q * w in
    let r = m - (a + w) in
    let e : m ≡ a + (w + r) = omega arith in
    let e' : m ≡ (a + w) + r = omega arith in
    let rest : entries r (drop w (drop a ns)) (drop w (drop a ds)) ≡ drop (a + w) (entries m ns ds) =
    ap (λ (l : List ℕ). entries r l (drop w (drop a ds))) (drop-drop w a ns)
    ∙ ap (entries r (drop (a + w) ns)) (drop-drop w a ds)
    ∙ sym (ap (λ (x : ℕ). drop (a + w) (entries x ns ds)) e' ∙ entries_from (a + w) r ns ds (omega arith) (omega arith)) in
    let front : entries a (take a ns) (take a ds) ≡ take a (entries m ns ds) = entries-take a ns ds ∙ sym (take-entries a m ns ds (omega arith)) in
    ap (λ (x : ℕ). entries x (put_mid a w ns ys) (put_mid a w ds zs)) e
    ∙ entries-append a (w + r) (take a ns) (ys ++ drop w (drop a ns)) (take a ds) (zs ++ drop w (drop a ds)) (length-take-le a ns (omega arith)) (length-take-le a ds (omega arith))
    ∙ ap (λ (l : List Neighbor). l ++ entries (w + r) (ys ++ drop w (drop a ns)) (zs ++ drop w (drop a ds))) front
    ∙ ap (λ (l : List Neighbor). take a (entries m ns ds) ++ l) (entries-append w r ys (drop w (drop a ns)) zs (drop w (drop a ds)) y z)
    ∙ ap (λ (l : List Neighbor). take a (entries m ns ds) ++ (entries w ys zs ++ l)) rest

-- ---- row q

module _ (n w : ℕ) (ns : List ℕ) (ds : List Float) (q : ℕ) (h : n * w ≤ length ns) (g : n * w ≤ length ds) (l : q < n) where
  row_is : part w q (entries (n * w) ns ds) ≡ entries w (mid_of (q * w) w ns) (mid_of (q * w) w ds)
  unfolding part
  row_is = part-entries w q (n * w) ns ds (row_in n w q l) h g

  row_long : length (mid_of (q * w) w ns) ≡ w
  row_long = let r = row_in n w q l in length-take-le w (drop (q * w) ns) (rw (length-drop (q * w) ns) (omega arith))

  row-dists : length (mid_of (q * w) w ds) ≡ w
  row-dists = let r = row_in n w q l in length-take-le w (drop (q * w) ds) (rw (length-drop (q * w) ds) (omega arith))

  live-nodes : {r : ℕ} → LiveIn w (mid_of (q * w) w ds) r → nodes_of (live (part w q (entries (n * w) ns ds))) ≡ take r (mid_of (q * w) w ns)
  live-nodes {r} made =
      let in_row = made.within in
      let i = row_long in
      let j = row-dists in
      ap (λ (l : List Neighbor). nodes_of (live l)) row_is
      ∙ ap nodes_of (made.list (mid_of (q * w) w ns) (omega arith))
      ∙ nodes_of-entries r (mid_of (q * w) w ns) (mid_of (q * w) w ds) (omega arith)

  -- the row is lent, k places
  pub known : (v k : ℕ) → k ≡ w → {r : ℕ} → LiveIn w (mid_of (q * w) k ds) r
      → has v (take r (mid_of (q * w) k ns)) ≡ has v (nodes_of (live (part w q (entries (n * w) ns ds))))
  known v k u {r} made =
      ap (λ (x : ℕ). has v (take r (mid_of (q * w) x ns))) u
      ∙ sym (ap (has v) (live-nodes {r = r} (subst (λ (x : ℕ). LiveIn w (mid_of (q * w) x ds) r) u made)))

-- ---- the row of the entry that was read

module _ (n w : ℕ) (ns : List ℕ) (ds : List Float) (d : Between) (t : Float) (v : ℕ) (e : Neighbor) (h : n * w ≤ length ns) (g : n * w ≤ length ds) (q : node_of e < n) (S : Sound n (entries (n * w) ns ds)) where
  pub lent-sound : (k : ℕ) → k ≡ w → Sound n (entries w (mid_of (node_of e * w) k ns) (mid_of (node_of e * w) k ds))
  lent-sound k u = rw (u, ← row_is n w ns ds (node_of e) h g q) (sound-part n w (node_of e) (entries (n * w) ns ds) S)

  -- "If v is in w's live part, go on."
  pub linked_known : has v (nodes_of (live (part w (node_of e) (entries (n * w) ns ds)))) ≡ true → Linked n w (link_back d t w v e (entries (n * w) ns ds)) ns ds
  unfolding link_back
  linked_known b = record { list = rw b; sound = S }

  -- "Otherwise offer (v, that slot's distance) to row w."
  pub linked_offered : has v (nodes_of (live (part w (node_of e) (entries (n * w) ns ds)))) ≡ false → v < n → (k : ℕ) → k ≡ w → (ys : List ℕ) (zs : List Float)
      → length ys ≡ length (mid_of (node_of e * w) k ns) → length zs ≡ length (mid_of (node_of e * w) k ds)
      → entries w ys zs ≡ offered d t w (neighbor v e.distance) (entries w (mid_of (node_of e * w) k ns) (mid_of (node_of e * w) k ds))
      → Linked n w (link_back d t w v e (entries (n * w) ns ds)) (put_mid (node_of e * w) k ns ys) (put_mid (node_of e * w) k ds zs)
  unfolding link_back
  linked_offered b l k u ys zs y z o =
      let at = node_of e in
      let slots = entries (n * w) ns ds in
      let row = part w at slots in
      let offer = neighbor v e.distance in
      let is = row_is n w ns ds at h g q in
      let a = row_long n w ns ds at h g q in
      let c = row-dists n w ns ds at h g q in
      let y' : length ys ≡ w = y ∙ ap (λ (x : ℕ). length (mid_of (at * w) x ns)) u ∙ a in
      let z' : length zs ≡ w = z ∙ ap (λ (x : ℕ). length (mid_of (at * w) x ds)) u ∙ c in
      let o' : entries w ys zs ≡ offered d t w offer row =
      o ∙ ap (λ (x : ℕ). offered d t w offer (entries w (mid_of (at * w) x ns) (mid_of (at * w) x ds))) u ∙ ap (offered d t w offer) (sym is) in
      let back : entries (n * w) (put_mid (at * w) k ns ys) (put_mid (at * w) k ds zs) ≡ put_part w at (offered d t w offer row) slots =
      ap (λ (x : ℕ). entries (n * w) (put_mid (at * w) x ns ys) (put_mid (at * w) x ds zs)) u
      ∙ put_entries w at (n * w) ns ys ds zs (row_in n w at q) h g y' z'
      ∙ ap (λ (l : List Neighbor). put_part w at l slots) o' in
      let long : length row ≡ w = ap length is ∙ length-entries w (mid_of (at * w) w ns) (mid_of (at * w) w ds) (rw a (omega arith)) (rw c (omega arith)) in
      record {
        list = rw b back;
        sound = rw back (sound-put n w at (offered d t w offer row) slots (sound-offered n d t w offer row long l (sound-part n w at slots S)) S);
      }

-- ---- one link

least-one : (w v : ℕ) → 1 ≤ w → v ≤ v * w
least-one w zero h = zero-le
least-one w (suc v) h = let i = least-one w v h in let m = suc-mul v w in omega arith

-- the slot that is read is one of the n times w
pub slot_within : {n w v i : ℕ} → v < n → i < w → slot_read w v i < n * w
slot_within {n} {w} {v} {i} l k =
    let r = row_in n w v l in
    let m = least-one w v (omega arith) in
    omega arith

-- the entry e that stands in it
module _ (n w v i : ℕ) (ns : List ℕ) (ds : List Float) {e : Neighbor} (S : Sound n (entries (n * w) ns ds)) (r : e ≡ get_or (entries (n * w) ns ds) (slot_read w v i) (empty_slot 0)) where
  pub slot_below : n * w ≤ length ns → n * w ≤ length ds → slot_read w v i < n * w → is_empty e ≡ false → node_of e < n
  slot_below h g l =
      let long = length-entries (n * w) ns ds h g in
      rw r (all-at (λ (x : Neighbor). is_empty x ≡ false → node_of x < n) (entries (n * w) ns ds) (slot_read w v i) (empty_slot 0) S (omega arith))

  pub link_empty : (d : Between) (t : Float) → is_empty e ≡ true → Linked n w (link d t w v i (entries (n * w) ns ds)) ns ds
  unfolding link
  link_empty d t b = record { list = rw (← r, b); sound = S }

  pub link_on : (d : Between) (t : Float) → is_empty e ≡ false → {ns' : List ℕ} {ds' : List Float}
      → Linked n w (link_back d t w v e (entries (n * w) ns ds)) ns' ds' → Linked n w (link d t w v i (entries (n * w) ns ds)) ns' ds'
  unfolding link
  link_on d t b made = record { list = made.list ∙ rw (← r, b); sound = made.sound }

-- ---- turns over the slots

pub record Turning (n w bound : ℕ) (f : ℕ → List Neighbor → List Neighbor) (ns₀ : List ℕ) (ds₀ : List Float) (ps₀ : List ℕ) (qs₀ : List Float) (ns : List ℕ) (ds : List Float) (ps : List ℕ) (qs : List Float) (i : ℕ) : Type 0 where
  pub within : i ≤ bound
  pub linked : Linked n w (turns f i (entries (n * w) ns₀ ds₀)) ns ds
  pub nodes : length ns ≡ length ns₀
  pub dists : length ds ≡ length ds₀
  pub pool_nodes : length ps ≡ length ps₀
  pub pool_dists : length qs ≡ length qs₀

pub turning_none : {n w bound : ℕ} {f : ℕ → List Neighbor → List Neighbor} {ns : List ℕ} {ds : List Float} {ps : List ℕ} {qs : List Float} → Sound n (entries (n * w) ns ds)
    → Turning n w bound f ns ds ps qs ns ds ps qs 0
unfolding turns
turning_none S = record { within = zero-le; linked = record { list = refl; sound = S }; nodes = refl; dists = refl; pool_nodes = refl; pool_dists = refl }

module _ {n w bound : ℕ} {f : ℕ → List Neighbor → List Neighbor} {ns₀ : List ℕ} {ds₀ : List Float} {ps₀ : List ℕ} {qs₀ : List Float} {ns : List ℕ} {ds : List Float} {ps : List ℕ} {qs : List Float} {i : ℕ} (inv : Turning n w bound f ns₀ ds₀ ps₀ qs₀ ns ds ps qs i) where
  pub turning_turn : i < bound → {ns' : List ℕ} {ds' : List Float} {ps' : List ℕ} {qs' : List Float} → Linked n w (f i (entries (n * w) ns ds)) ns' ds'
      → length ns' ≡ length ns → length ds' ≡ length ds → length ps' ≡ length ps → length qs' ≡ length qs
      → Turning n w bound f ns₀ ds₀ ps₀ qs₀ ns' ds' ps' qs' (i + 1)
  turning_turn l made a b c e =
      record {
        within = omega arith;
        linked = record { list = made.list ∙ ap (f i) inv.linked.list ∙ turns_turn f i (entries (n * w) ns₀ ds₀); sound = made.sound };
        nodes = a ∙ inv.nodes;
        dists = b ∙ inv.dists;
        pool_nodes = c ∙ inv.pool_nodes;
        pool_dists = e ∙ inv.pool_dists;
      }

  turning_all : bound ≤ i → Linked n w (turns f bound (entries (n * w) ns₀ ds₀)) ns ds
  turning_all l =
      let u = inv.within in
      let same : i ≡ bound = omega arith in
      record { list = inv.linked.list ∙ ap (λ (x : ℕ). turns f x (entries (n * w) ns₀ ds₀)) same; sound = inv.linked.sound }

module _ (d : Between) (t : Float) {n w : ℕ} {ns₀ : List ℕ} {ds₀ : List Float} {ps₀ : List ℕ} {qs₀ : List Float} {ns : List ℕ} {ds : List Float} {ps : List ℕ} {qs : List Float} {i : ℕ} where
  pub links_of_lem : (v : ℕ) → Turning n w w (link d t w v) ns₀ ds₀ ps₀ qs₀ ns ds ps qs i → w ≤ i → Linked n w (links_of d t w v (entries (n * w) ns₀ ds₀)) ns ds
  unfolding links_of
  links_of_lem v inv l = turning_all inv l

  pub links_all_lem : Turning n w n (links_of d t w) ns₀ ds₀ ps₀ qs₀ ns ds ps qs i → n ≤ i → Linked n w (links_all d n t w (entries (n * w) ns₀ ds₀)) ns ds
  unfolding links_all
  links_all_lem inv l = turning_all inv l

-- what the links give is what the rulebook says of step 5
pub linked_slots_lem : (d : Between) (n : ℕ) (p : BuildSizes) (slots : List Neighbor) → links_all d n p.threshold p.index_size slots ≡ linked_slots d n p slots
unfolding links_all links_of linked_slots
linked_slots_lem d n p slots = refl
