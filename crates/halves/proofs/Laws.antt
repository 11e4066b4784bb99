-- What one step of half a job leaves. Assumes nothing.
use mathlib.Core.Path.{◌≡◌, refl, sym, ap, ◌∙◌}
use mathlib.Core.Bool.{Bool, true, false, not, ◌&&◌}
use mathlib.Core.List.{List, ◌∷◌, ◌++◌}
use Prim.Native.Nat.{ℕ, zero, suc, ◌+◌, ◌-◌, ◌≤◌, ◌<◌}
use native.Mathlib.Omega.{arith}
use borrow.Author.Tests.{ne_eqb}
use lib.Dec.{eqb, ltb}
use lib.ListN.{length, take, drop, set, replicate, length-set, take-append-drop}
use lib.Seq.{drop_at, drop-drop, drop-cons, drop-set-add, length-take-le}
use lib.Ieee.{Float}
use Rattle.std.proofs.lemmas.Bool.Decides.{nat_tests}
use Rattle.rules.specs.declared.Neighbor.{Neighbor}
use Rattle.rules.specs.Distance.{zero32}
use Rattle.rules.specs.Lists.{entries, nodes_of, distances_of, insert}
use Rattle.rules.specs.Offers.{look, pop}
use Rattle.rules.specs.Relay.{Stage, taken_of, longer_of, next_stage, next_list}
use Rattle.rules.specs.Places.{padded}
use Rattle.rules.specs.RelayPlaces.{stage_in}
use Rattle.rules.proofs.Places.{drop-replicate}
use Rattle.lists.specs.Lists.{Pushed, Popped}
use Rattle.lists.proofs.Laws.{length-insert}
use Rattle.lists.proofs.Slices.{length-entries, nodes_of-entries, distances_of-entries}
use Rattle.lists.proofs.Plain.{length-nodes, length-distances}
use Rattle.halves.specs.Halves.{Roomed, NextList}

-- ---- the flags

module _ (k : ℕ) (equal : Bool) (e : Neighbor) (l : List Neighbor) (steps : ℕ) (t m : Bool) where
  abbrev next : Stage
  next = next_stage k equal e l (stage_in steps t m)

  pub taken_looked : steps ≡ 0 → taken_of next ≡ (not equal && look e l)
  unfolding next_stage stage_in taken_of
  taken_looked s = rw s

  pub longer_looked : steps ≡ 0 → longer_of next ≡ false
  unfolding next_stage stage_in longer_of
  longer_looked s = rw s

  pub taken_pushed : steps ≡ 1 → taken_of next ≡ t
  unfolding next_stage stage_in taken_of
  taken_pushed s = rw s

  pub longer_pushed : steps ≡ 1 → longer_of next ≡ false
  unfolding next_stage stage_in longer_of
  longer_pushed s = rw s

  pub taken_measured : steps ≡ 2 → taken_of next ≡ t
  unfolding next_stage stage_in taken_of
  taken_measured s = rw s

  pub longer_measured : steps ≡ 2 → longer_of next ≡ (t && ltb k (length l))
  unfolding next_stage stage_in longer_of
  longer_measured s = rw s

  pub taken_popped : steps ≡ 3 → taken_of next ≡ t
  unfolding next_stage stage_in taken_of
  taken_popped s = rw s

  pub longer_popped : steps ≡ 3 → longer_of next ≡ m
  unfolding next_stage stage_in longer_of
  longer_popped s = rw s

pub ruleset flag_laws = (taken_looked, longer_looked, taken_pushed, longer_pushed, taken_measured, longer_measured, taken_popped, longer_popped, length-entries, nat_tests)

-- ---- room behind a list

module _ {A : Type 0} (z : A) where
  -- from r on, where the front is no longer than r
  behind : (R r : ℕ) (f xs : List A) → xs ≡ padded R z f → length f ≤ r → drop r xs ≡ replicate (R - r) z
  unfolding padded
  behind R r f xs e h =
      let s : length f + (r - length f) ≡ r = omega arith in
      let t : R - length f - (r - length f) ≡ R - r = omega arith in
      ap (drop r) e ∙ ap (λ (i : ℕ). drop i (f ++ replicate (R - length f) z)) (sym s)
      ∙ sym (drop-drop (r - length f) (length f) (f ++ replicate (R - length f) z))
      ∙ ap (drop (r - length f)) (drop_at f (replicate (R - length f) z) (length f) refl)
      ∙ drop-replicate (r - length f) (R - length f) z ∙ ap (λ (i : ℕ). replicate i z) t

  -- a front g, and zeros behind it
  repad : (R r : ℕ) (g ys : List A) → take r ys ≡ g → length g ≡ r → drop r ys ≡ replicate (R - r) z → ys ≡ padded R z g
  unfolding padded
  repad R r g ys a b c =
      sym (take-append-drop r ys) ∙ ap (λ (l : List A). l ++ drop r ys) a ∙ ap (λ (l : List A). g ++ l) (c ∙ ap (λ (i : ℕ). replicate (R - i) z) (sym b))

  -- the place that is freed
  freed : (R r : ℕ) (f xs : List A) → xs ≡ padded R z f → length f ≡ r + 1 → r < length xs → r + 1 ≤ R → drop r (set xs r z) ≡ replicate (R - r) z
  freed R r f xs e h l m =
      let s : r + 0 ≡ r = omega arith in
      let one : suc r ≡ r + 1 = omega arith in
      let t : suc (R - (r + 1)) ≡ R - r = omega arith in
      ap (λ (i : ℕ). drop r (set xs i z)) (sym s) ∙ drop-set-add r xs 0 z
      ∙ ap (λ (ys : List A). set ys 0 z) (drop-cons xs r z l)
      ∙ ap (λ (i : ℕ). z ∷ drop i xs) one ∙ ap (λ (ys : List A). z ∷ ys) (behind R (r + 1) f xs e (omega arith)) ∙ ap (λ (i : ℕ). replicate i z) t

module _ {ns : List ℕ} {ds : List Float} {len : ℕ} (room : Roomed ns ds len) (e : Neighbor) where
  abbrev l : List Neighbor
  l = entries len ns ds

  long : length l ≡ len
  long = let a = room.long in let b = room.wide in length-entries len ns ds a (omega arith)

  pub list-kept : (s : Stage) → next_list e l s ≡ l → NextList ns ds len e s ns ds len
  list-kept s h =
      record {
        count = sym long ∙ ap length (sym h);
        few = room.long;
        nodes = room.nodes ∙ ap (λ (x : List Neighbor). padded (length ns) 0 (nodes_of x)) (sym h);
        dists = room.dists ∙ ap (λ (x : List Neighbor). padded (length ns) zero32 (distances_of x)) (sym h);
      }

  list_put : (l' : List Neighbor) (ns' : List ℕ) (ds' : List Float) (r : ℕ) → length l' ≡ r → r ≤ length ns' → r ≤ length ds' → entries r ns' ds' ≡ l'
      → drop r ns' ≡ replicate (length ns - r) 0 → drop r ds' ≡ replicate (length ns - r) zero32
      → (r ≡ length l') × (ns' ≡ padded (length ns) 0 (nodes_of l')) × (ds' ≡ padded (length ns) zero32 (distances_of l'))
  list_put l' ns' ds' r a b c d f g = (
    sym a,
    repad 0 (length ns) r (nodes_of l') ns' (sym (nodes_of-entries r ns' ds' c) ∙ ap nodes_of d) (length-nodes l' ∙ a) f,
    repad zero32 (length ns) r (distances_of l') ds' (sym (distances_of-entries r ns' ds' b) ∙ ap distances_of d) (length-distances l' ∙ a) g,
  )

  pub list_pushed : (steps : ℕ) (t longer : Bool) {ns' : List ℕ} {ds' : List Float} {r : ℕ} → steps ≡ 1 → t ≡ true → len < length ns → Pushed ns ds len e ns' ds' r → NextList ns ds len e (stage_in steps t longer) ns' ds' r
  unfolding next_list stage_in
  list_pushed steps t longer {ns'} {ds'} {r} s g h made =
      let a = length-insert e l in
      let b = long in
      let w = room.wide in
      let n1 = made.nodes_long in
      let n2 = made.dists_long in
      let c = made.count in
      let p = list_put (insert e l) ns' ds' r (omega arith) (omega arith) (omega arith) made.list
      (made.nodes_rest ∙ behind 0 (length ns) r (nodes_of l) ns room.nodes (let d = length-nodes l in omega arith))
      (made.dists_rest ∙ behind zero32 (length ns) r (distances_of l) ds room.dists (let d = length-distances l in omega arith)) in
      rw (s, g) (record { count = p.0; few = omega arith; nodes = p.1; dists = p.2 })

  pub list-popped : (steps : ℕ) (t longer : Bool) {ns' : List ℕ} {ds' : List Float} {r : ℕ} → steps ≡ 3 → longer ≡ true → Popped ns ds len ns' ds' r → NextList ns ds len e (stage_in steps t longer) ns' ds' r
  unfolding next_list stage_in pop
  list-popped steps t longer {ns'} {ds'} {r} s g made =
      let b = long in
      let c = made.count in
      let h = room.long in
      let w = room.wide in
      let one : length l - 1 ≡ r = omega arith in
      let n1 : length ns' ≡ length ns = ap length made.nodes ∙ length-set ns r 0 in
      let n2 : length ds' ≡ length ds = ap length made.dists ∙ length-set ds r zero32 in
      let p = list_put (take (length l - 1) l) ns' ds' r (length-take-le (length l - 1) l (omega arith) ∙ one) (omega arith) (omega arith) (made.list ∙ ap (λ (i : ℕ). take i l) (sym one))
      (ap (drop r) made.nodes ∙ freed 0 (length ns) r (nodes_of l) ns room.nodes (let d = length-nodes l in omega arith) (omega arith) (omega arith))
      (ap (drop r) made.dists ∙ freed zero32 (length ns) r (distances_of l) ds room.dists (let d = length-distances l in omega arith) (omega arith) (omega arith)) in
      rw (s, g) (record { count = p.0; few = omega arith; nodes = p.1; dists = p.2 })

-- ---- stages at which the list stays

module _ (e : Neighbor) (l : List Neighbor) where
  pub stays_left : (steps t : ℕ) (longer : Bool) → steps ≡ 1 → (t ≡ 1 → ⊥) → next_list e l (stage_in steps (eqb t 1) longer) ≡ l
  unfolding next_list stage_in
  stays_left steps t longer s h = rw (s, ne_eqb t 1 h)

  pub stays_short : (steps longer : ℕ) (t : Bool) → steps ≡ 3 → (longer ≡ 1 → ⊥) → next_list e l (stage_in steps t (eqb longer 1)) ≡ l
  unfolding next_list stage_in
  stays_short steps longer t s h = rw (s, ne_eqb longer 1 h)

  pub stays : (steps : ℕ) (t longer : Bool) → steps ≤ 3 → (steps ≡ 1 → t ≡ false) → (steps ≡ 3 → longer ≡ false) → next_list e l (stage_in steps t longer) ≡ l
  unfolding next_list stage_in
  stays zero t longer h a b = refl
  stays (suc zero) t longer h a b = rw (a refl)
  stays (suc (suc zero)) t longer h a b = refl
  stays (suc (suc (suc zero))) t longer h a b = rw (b refl)
  stays (suc (suc (suc (suc s)))) t longer h a b = absurd (omega arith)
