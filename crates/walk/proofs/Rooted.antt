-- The roots are worked out one by one; one beyond the k-th found so far is passed over, as it would stand behind the first k. Assumes nothing.
use mathlib.Core.Path.{◌≡◌, refl, sym, ap, ◌∙◌, subst}
use mathlib.Core.Bool.{Bool, true, false, cond, true≢false}
use mathlib.Core.List.{List, []}
use Prim.Native.Nat.{ℕ, suc, ◌+◌, ◌-◌, ◌≤◌, ◌<◌}
use native.Mathlib.Numerals.{add-one}
use native.Mathlib.Omega.{arith}
use borrow.Author.Tests.{ltb-false}
use lib.Dec.{ltb}
use lib.ListN.{length, take, drop, get_or, drop_of_length-le}
use lib.Seq.{drop-cons, get_or-take, get_or-drop}
use lib.Ieee.{Float, nan, lt}
use Rattle.std.specs.Prelude.{Ok, Err, Some, None}
use Rattle.rules.specs.Answers.{Distance}
use Rattle.rules.specs.declared.NodeId.{NodeId}
use Rattle.rules.specs.declared.Neighbor.{Neighbor}
use Rattle.rules.specs.Distance.{before}
use Rattle.rules.specs.Lists.{neighbor, entries, insert}
use Rattle.rules.specs.Rows.{empty_distance}
use Rattle.rules.specs.Search.{Going, on, unfit_at, and_then, works_out, roots_found}
use Rattle.neighbor.specs.Holdable.{Holdable}
use Rattle.neighbor.proofs.Bits.{within_empty}
use Rattle.neighbor.proofs.Order.{asymmetric}
use Rattle.lists.specs.Ascending.{AllHoldable, Ascending}
use Rattle.lists.proofs.Laws.{length-insert, take-insert, take_behind, holdable_at, holdable_insert, ascending-insert}
use Rattle.lists.proofs.Slices.{length-entries, get_d_entries}
use Rattle.expand.specs.Steps.{Counted}
use Rattle.buffers.specs.Area.{area}
use Rattle.expand.specs.Areas.{found_at, found_in, Room}
use Rattle.expand.specs.Steps.{works_near, entries_after, at_most, WorkedOut}
use Rattle.buffers.proofs.Places.{length-area}
use Rattle.expand.proofs.Near.{Answers}
use Rattle.walk.specs.Walks.{bound, RootsIn, RootsFound}

-- ---- an answer that goes on is not one that is unfit

inner : {A : Type 0} → A → Going A → A
inner z (on a) = a
inner z (unfit_at v) = z

is_on : {A : Type 0} → Going A → Bool
is_on (on a) = true
is_on (unfit_at v) = false

-- ---- the bound

module _ (n k len : ℕ) (us : List ℕ) (fs : List Float) (room : Room n us fs) (some : 1 ≤ k) (short : len ≤ 64) where
  -- the k-th found, as the code reads it
  kth : k ≤ len → (get_or (found_in n us fs len) (k - 1) (neighbor 0 nan)).distance ≡ get_or fs (n + n + 64 + k - 1) nan
  kth h =
      let w = room.words in
      let x = room.floats in
      let ul = length-area (found_at n) 64 us (omega arith) in
      let fl = length-area (found_at n) 64 fs (omega arith) in
      let at : n + n + 64 + (k - 1) ≡ n + n + 64 + k - 1 = omega arith in
      ap (λ (e : Neighbor). e.distance)
      (get_d_entries len (k - 1) (area (found_at n) 64 us) (area (found_at n) 64 fs) 0 nan (neighbor 0 nan) (omega arith) (omega arith) (omega arith))
      ∙ get_or-take 64 (drop (found_at n) fs) (k - 1) nan (omega arith)
      ∙ get_or-drop (found_at n) fs (k - 1) nan
      ∙ ap (λ (j : ℕ). get_or fs j nan) at

  -- what is beyond the bound stands behind the first k
  pub cut_beyond : (e : Neighbor) → Holdable e.distance → AllHoldable (found_in n us fs len) → Ascending (found_in n us fs len) → lt (bound n fs len k) e.distance ≡ true
      → take k (insert e (found_in n us fs len)) ≡ take k (found_in n us fs len)
  unfolding bound before
  cut_beyond e E H S b = go (ltb len k) refl b
    where
      go : (t : Bool) → ltb len k ≡ t → lt (cond t empty_distance (get_or fs (n + n + 64 + k - 1) nan)) e.distance ≡ true
          → take k (insert e (found_in n us fs len)) ≡ take k (found_in n us fs len)
      go true f c = absurd (true≢false (sym c ∙ within_empty e.distance E))
      go false f c =
          let full = ltb-false len k f in
          let w = room.words in
          let x = room.floats in
          let ul = length-area (found_at n) 64 us (omega arith) in
          let fl = length-area (found_at n) 64 fs (omega arith) in
          let long = length-entries len (area (found_at n) 64 us) (area (found_at n) 64 fs) (omega arith) (omega arith) in
          let y = get_or (found_in n us fs len) (k - 1) (neighbor 0 nan) in
          let Y = holdable_at (found_in n us fs len) (k - 1) (neighbor 0 nan) H (omega arith) in
          let less : lt y.distance e.distance ≡ true = ap (λ (d : Float). lt d e.distance) (kth full) ∙ c in
          let first : before y e ≡ true = rw less in
          let same : suc (k - 1) ≡ k = omega arith in
          subst (λ (j : ℕ). take j (insert e (found_in n us fs len)) ≡ take j (found_in n us fs len)) same
          (take_behind e (found_in n us fs len) (k - 1) (neighbor 0 nan) E H S (omega arith) (asymmetric y e Y E first))

-- ---- the roots before place i

pub record Rooting (apart : ℕ → Distance) (n k : ℕ) (roots us₀ : List ℕ) (fs₀ : List Float) (us : List ℕ) (fs : List Float) (len i : ℕ) : Type 0 where
  pub sorted : List Neighbor
  pub left : roots_found apart (drop i roots) sorted ≡ roots_found apart roots []
  pub count : length sorted ≡ i
  pub near : take k sorted ≡ take k (found_in n us fs len)
  pub held : AllHoldable (found_in n us fs len)
  pub rising : Ascending (found_in n us fs len)
  pub few : len ≤ i
  pub at : i ≤ length roots
  pub words : length us ≡ length us₀
  pub floats : length fs ≡ length fs₀

pub rooting_none : (apart : ℕ → Distance) (n k : ℕ) (roots us : List ℕ) (fs : List Float) → Rooting apart n k roots us fs us fs 0 0
unfolding entries
rooting_none apart n k roots us fs =
    record { sorted = []; left = refl; count = refl; near = refl; held = tt; rising = tt; few = omega arith; at = omega arith; words = refl; floats = refl }

module _ {apart : ℕ → Distance} {n k : ℕ} {roots us₀ : List ℕ} {fs₀ : List Float} {us : List ℕ} {fs : List Float} {len i : ℕ} (inv : Rooting apart n k roots us₀ fs₀ us fs len i) where
  next_root : (d : Distance) → apart (get_or roots i 0) ≡ d → i < length roots
      → roots_found apart (drop i roots) inv.sorted ≡ and_then (works_out apart (get_or roots i 0) inv.sorted d) (roots_found apart (drop (i + 1) roots))
  unfolding roots_found
  next_root d e h = rw (add-one, drop-cons roots i 0, e)

  pub rooting_unfit : {far : Float} {us' : List ℕ} {fs' : List Float} {r : Counted} {u : NodeId} → i < length roots → r ≡ Err u
      → WorkedOut far apart n (get_or roots i 0) len us fs us' fs' r → RootsFound apart n k roots us₀ fs₀ us' fs' r
  unfolding entries_after works_near works_out and_then RootsIn is_on
  rooting_unfit {far} {us'} {fs'} {r} {u} h e w =
      let p : WorkedOut far apart n (get_or roots i 0) len us fs us' fs' (Err u) = rw e at w in
      rw e (record { found = go (apart (get_or roots i 0)) refl p.entries; words = p.kept.words ∙ inv.words; floats = p.kept.floats ∙ inv.floats })
    where
      go : (d : Distance) → apart (get_or roots i 0) ≡ d → unfit_at u.0 ≡ works_near far (get_or roots i 0) (found_in n us fs len) d → roots_found apart roots [] ≡ unfit_at u.0
      go (Some x) f q = absurd (true≢false (sym (ap is_on q)))
      go None f q = sym inv.left ∙ next_root None f h ∙ sym q

  pub rooting_more : {far : Float} {us' : List ℕ} {fs' : List Float} {r : Counted} {more : ℕ} → Room n us fs → Answers apart → 1 ≤ k → len ≤ 64 → i < length roots
      → far ≡ bound n fs len k → r ≡ Ok more
      → WorkedOut far apart n (get_or roots i 0) len us fs us' fs' r → Rooting apart n k roots us₀ fs₀ us' fs' more (i + 1)
  unfolding entries_after works_near works_out and_then at_most is_on inner
  rooting_more {far} {us'} {fs'} {r} {more} room fine some short h bounded e w =
      let p : WorkedOut far apart n (get_or roots i 0) len us fs us' fs' (Ok more) = rw e at w in
      go (apart (get_or roots i 0)) refl p.entries p
    where
      F : List Neighbor
      F = found_in n us fs len

      next : (x : Float) (t : Bool) → lt far x ≡ t → apart (get_or roots i 0) ≡ Some x → found_in n us' fs' more ≡ cond t F (insert (neighbor (get_or roots i 0) x) F)
          → WorkedOut far apart n (get_or roots i 0) len us fs us' fs' (Ok more) → Rooting apart n k roots us₀ fs₀ us' fs' more (i + 1)
      next x t b f q p =
          let v = neighbor (get_or roots i 0) x in
          let X = fine (get_or roots i 0) x f in
          let cut : take k (insert v inv.sorted) ≡ take k (insert v F) = sym (take-insert k v inv.sorted) ∙ ap (λ (l : List Neighbor). take k (insert v l)) inv.near ∙ take-insert k v F in
          let c = inv.count in
          let l = length-insert v inv.sorted in
          let few = inv.few in
          let now : more ≤ len + 1 = p.few in
          record {
            sorted = insert v inv.sorted;
            left = sym (next_root (Some x) f h) ∙ inv.left;
            count = omega arith;
            near = cut ∙ near_now t b X ∙ ap (take k) (sym q);
            held = subst AllHoldable (sym q) (held_now t X);
            rising = subst Ascending (sym q) (rising_now t X);
            few = omega arith;
            at = omega arith;
            words = p.kept.words ∙ inv.words;
            floats = p.kept.floats ∙ inv.floats;
          }
        where
          near_now : (t : Bool) → lt far x ≡ t → Holdable x → take k (insert (neighbor (get_or roots i 0) x) F) ≡ take k (cond t F (insert (neighbor (get_or roots i 0) x) F))
          near_now true b X = cut_beyond n k len us fs room some short (neighbor (get_or roots i 0) x) X inv.held inv.rising (ap (λ (d : Float). lt d x) (sym bounded) ∙ b)
          near_now false b X = refl

          held_now : (t : Bool) → Holdable x → AllHoldable (cond t F (insert (neighbor (get_or roots i 0) x) F))
          held_now true X = inv.held
          held_now false X = holdable_insert (neighbor (get_or roots i 0) x) F X inv.held

          rising_now : (t : Bool) → Holdable x → Ascending (cond t F (insert (neighbor (get_or roots i 0) x) F))
          rising_now true X = inv.rising
          rising_now false X = ascending-insert (neighbor (get_or roots i 0) x) F X inv.held inv.rising

      go : (d : Distance) → apart (get_or roots i 0) ≡ d → on (found_in n us' fs' more) ≡ works_near far (get_or roots i 0) F d
          → WorkedOut far apart n (get_or roots i 0) len us fs us' fs' (Ok more) → Rooting apart n k roots us₀ fs₀ us' fs' more (i + 1)
      go (Some x) f q p = next x (lt far x) refl f (ap (inner F) q) p
      go None f q p = absurd (true≢false (ap is_on q))

  pub rooting_end : length roots ≤ i → RootsFound apart n k roots us₀ fs₀ us fs (Ok len)
  unfolding roots_found RootsIn
  rooting_end h =
      let at = inv.at in
      let c = inv.count in
      let few = inv.few in
      record {
        found = (
          inv.sorted,
          sym inv.left ∙ ap (λ (l : List ℕ). roots_found apart l inv.sorted) (drop_of_length-le roots {i = i} h),
          omega arith,
          inv.near,
          inv.held,
          inv.rising,
          omega arith,
        );
        words = inv.words;
        floats = inv.floats;
      }
