-- Entries gathered by their pairs. Assumes nothing.
use mathlib.Core.Path.{◌≡◌, refl, sym, ap, ◌∙◌}
use mathlib.Core.Bool.{Bool, true, false, cond, not, beq, ◌&&◌}
use mathlib.Core.List.{List, [], ◌∷◌, ◌++◌, append-nil}
use Prim.Native.Nat.{ℕ, ◌+◌, ◌-◌, ◌*◌, ◌≤◌, ◌<◌}
use native.Mathlib.Numerals.{add-one}
use native.Mathlib.Omega.{arith}
use borrow.Author.Tests.{eq-eqb, ne_eqb}
use lib.Dec.{eqb}
use lib.ListN.{length, take, drop, get_or, set, length-set, length-drop, length-take}
use lib.Seq.{take-suc, take-suc-set, take_all, length-take-le}
use Rattle.rules.specs.declared.Neighbor.{Neighbor}
use Rattle.rules.specs.Loops.{part}
use Rattle.rules.specs.Lists.{node_of, nodes_of}
use Rattle.rules.specs.Descent.{is_visited, new_of, old_of}
use Rattle.lists.specs.All.{All}
use Rattle.lists.proofs.Plain.{all-at}
use Rattle.visits.specs.Marks.{Holds}
use Rattle.meets.specs.Meets.{marks_at}
use Rattle.renews.specs.Renews.{taken, chosen, Gathered}

-- ---- one entry

module _ (n i : ℕ) (flags : List Bool) (v : ℕ) (w : Bool) where
  pub taken_none : n ≤ v → v ≤ n → false ≡ taken w n i flags v
  unfolding taken
  taken_none h l = let e : v ≡ n = omega arith in rw (eq-eqb v n e)

  pub taken_is : v < n → cond w (is_visited n i v flags) (not (is_visited n i v flags)) ≡ taken w n i flags v
  unfolding taken
  taken_is h = rw (ne_eqb v n (λ (q : v ≡ n). let z : n ≡ v = sym q in absurd (omega arith)))

-- a pair visited or not as asked
pub as_asked : (b w : Bool) → beq b w ≡ cond w b (not b)
as_asked true true = refl
as_asked true false = refl
as_asked false true = refl
as_asked false false = refl

-- ---- new and old

pub chosen-new : (n i : ℕ) (flags : List Bool) (es : List Neighbor) → chosen true n i flags (nodes_of es) ≡ new_of n i flags es
unfolding chosen new_of taken nodes_of
chosen-new n i flags [] = refl
chosen-new n i flags (e ∷ es) =
    ap (λ (l : List ℕ). cond (not (eqb (node_of e) n) && is_visited n i (node_of e) flags) (node_of e ∷ l) l) (chosen-new n i flags es)

pub chosen-old : (n i : ℕ) (flags : List Bool) (es : List Neighbor) → chosen false n i flags (nodes_of es) ≡ old_of n i flags es
unfolding chosen old_of taken nodes_of
chosen-old n i flags [] = refl
chosen-old n i flags (e ∷ es) =
    ap (λ (l : List ℕ). cond (not (eqb (node_of e) n) && not (is_visited n i (node_of e) flags)) (node_of e ∷ l) l) (chosen-old n i flags es)

chosen_more : (w : Bool) (n i : ℕ) (flags : List Bool) (xs : List ℕ) (v : ℕ) → chosen w n i flags (xs ++ (v ∷ [])) ≡ chosen w n i flags xs ++ cond (taken w n i flags v) (v ∷ []) []
unfolding chosen
chosen_more w n i flags [] v = refl
chosen_more w n i flags (x ∷ xs) v = go (taken w n i flags x) (chosen_more w n i flags xs v)
  where
    go : (b : Bool) → chosen w n i flags (xs ++ (v ∷ [])) ≡ chosen w n i flags xs ++ cond (taken w n i flags v) (v ∷ []) []
        → cond b (x ∷ chosen w n i flags (xs ++ (v ∷ []))) (chosen w n i flags (xs ++ (v ∷ []))) ≡ cond b (x ∷ chosen w n i flags xs) (chosen w n i flags xs) ++ cond (taken w n i flags v) (v ∷ []) []
    go true e = ap (λ (l : List ℕ). x ∷ l) e
    go false e = e

-- ---- a list as the code cuts it out, and its length

pub part_cut : (k i : ℕ) (us : List ℕ) → i * k + k ≤ length us → (take (i * k + k - i * k) (drop (i * k) us) ≡ part k i us) × (length (take (i * k + k - i * k) (drop (i * k) us)) ≡ k)
unfolding part
part_cut k i us fits =
    let e : i * k + k - i * k ≡ k = omega arith in
    let d = length-drop (i * k) us in
    (ap (λ (m : ℕ). take m (drop (i * k) us)) e, rw e (length-take-le k (drop (i * k) us) (omega arith)))

-- ---- the first j entries of a list are passed

pub record Gathering (n k i : ℕ) (w : Bool) (us out : List ℕ) (len j : ℕ) : Type 0 where
  pub list : (flags : List Bool) → Holds (marks_at n k) n flags us → All (λ (v : ℕ). v ≤ n) (part k i us) → take len out ≡ chosen w n i flags (take j (part k i us))
  pub long : length out ≡ 64
  pub low : len ≤ j
  pub within : j ≤ k

module _ (n k i : ℕ) (w : Bool) (us : List ℕ) where
  pub gathering_none : {out : List ℕ} → length out ≡ 64 → Gathering n k i w us out 0 0
  unfolding chosen
  gathering_none e = record { list = λ flags h b. refl; long = e; low = omega arith; within = omega arith }

  module _ {out : List ℕ} {len j v : ℕ} (inv : Gathering n k i w us out len j) (h : j < k) (fits : i * k + k ≤ length us) (e : v ≡ get_or (part k i us) j 0) where
    one_more : (b : Bool) {out' : List ℕ} {len' : ℕ} → ((flags : List Bool) → Holds (marks_at n k) n flags us → v ≤ n → b ≡ taken w n i flags v)
        → take len' out' ≡ take len out ++ cond b (v ∷ []) [] → length out' ≡ 64 → len' ≤ j + 1 → Gathering n k i w us out' len' (j + 1)
    unfolding part
    one_more b {out'} {len'} is step long low =
        record {
          list = λ flags held below.
              let at : v ≤ n = rw e (all-at (λ (x : ℕ). x ≤ n) xs j 0 below (omega (arith, xs_long))) in
              step
              ∙ ap (λ (t : Bool). take len out ++ cond t (v ∷ []) []) (is flags held at)
              ∙ ap (λ (l : List ℕ). l ++ cond (taken w n i flags v) (v ∷ []) []) (inv.list flags held below)
              ∙ sym (chosen_more w n i flags (take j xs) v)
              ∙ ap (λ (x : ℕ). chosen w n i flags (take j xs ++ (x ∷ []))) e
              ∙ ap (chosen w n i flags) (sym (take-suc xs j 0 (omega (arith, xs_long))) ∙ ap (λ (m : ℕ). take m xs) (sym (add-one j)));
          long = long;
          low = low;
          within = omega arith;
        }
      where
        xs : List ℕ
        xs = take k (drop (i * k) us)

        xs_long : length xs ≡ k
        xs_long = length-take-le k (drop (i * k) us) (let d = length-drop (i * k) us in omega arith)

    pub gathering_taken : k ≤ 64 → {b : Bool} → b ≡ true → ((flags : List Bool) → Holds (marks_at n k) n flags us → v ≤ n → b ≡ taken w n i flags v)
        → Gathering n k i w us (set out len v) (len + 1) (j + 1)
    gathering_taken narrow t is =
        let low = inv.low in
        let long = inv.long in
        one_more true (λ flags held at. sym t ∙ is flags held at) (ap (λ (q : ℕ). take q (set out len v)) (add-one len) ∙ take-suc-set out len v (omega arith)) (length-set out len v ∙ long) (omega arith)

    pub gathering_passed : {b : Bool} → b ≡ false → ((flags : List Bool) → Holds (marks_at n k) n flags us → v ≤ n → b ≡ taken w n i flags v) → Gathering n k i w us out len (j + 1)
    gathering_passed t is =
        let low = inv.low in
        one_more false (λ flags held at. sym t ∙ is flags held at) (sym (append-nil (take len out))) inv.long (omega arith)

  pub gathering_end : {out : List ℕ} {len j : ℕ} → Gathering n k i w us out len j → k ≤ j → Gathered n k i w us out len
  unfolding part
  gathering_end {out} {len} {j} inv h =
      let low = inv.low in
      let within = inv.within in
      let e : j ≡ k = omega arith in
      record {
        list = λ flags held below. inv.list flags held below ∙ ap (chosen w n i flags) (take_all j (take k (drop (i * k) us)) (let t = length-take k (drop (i * k) us) in omega arith));
        long = inv.long;
        most = omega arith;
      }
