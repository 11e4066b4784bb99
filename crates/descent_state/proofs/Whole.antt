-- The whole state: its three parts are judged one after another. Assumes nothing.
use mathlib.Core.Path.{◌≡◌, refl, sym, ap, ◌∙◌}
use mathlib.Core.Bool.{Bool, true, false, not, ◌&&◌}
use mathlib.Core.List.{List, [], ◌∷◌, ◌++◌, append_assoc, append-nil}
use Prim.Native.Nat.{ℕ, zero, suc, ◌+◌, ◌-◌, ◌*◌, ◌≤◌, ◌<◌}
use native.Mathlib.Nat.{mul-le-mul_right, suc-mul, zero-mul}
use native.Mathlib.Omega.{arith}
use lib.ListN.{length, take, drop, length-drop, length-take, take-append-drop}
use lib.Seq.{length-take-le, take_all, take-take, take-add, drop-drop, get_or-drop}
use lib.Ieee.{Float}
use Rattle.rules.specs.declared.Neighbor.{Neighbor}
use Rattle.rules.specs.Loops.{each, part}
use Rattle.rules.specs.Lists.{entries, nodes_of, distances_of}
use Rattle.rules.specs.Offers.{lists_formed}
use Rattle.rules.specs.Places.{same_words, same_floats, list_words, list_floats, lists_in}
use Rattle.rules.specs.DescentPlaces.{bit_at, context_words, pair_words, descent_state, descent_in, contexts_formed, descent_formed}
use Rattle.bits.specs.Bits.{Words}
use Rattle.lists.proofs.Slices.{nodes_of-entries, distances_of-entries}
use Rattle.encoded.proofs.Same.{same-words, same-floats, same-words-append}
use Rattle.zeros.specs.Zeros.{all_below}
use Rattle.members.proofs.Laws.{area_in}
use Rattle.visits.specs.Marks.{marks}
use Rattle.descent_state.specs.State.{Sized, member_test}
use Rattle.descent_state.proofs.Contexts.{contexts, list_test, length-contexts, contexts_are}
use Rattle.descent_state.proofs.Spare.{bits_are}

-- ---- the lists as they are read, written again, are what was read

list_words-append : (xs ys : List (List Neighbor)) → list_words (xs ++ ys) ≡ list_words xs ++ list_words ys
unfolding list_words
list_words-append [] ys = refl
list_words-append (x ∷ xs) ys = ap (λ (l : List ℕ). nodes_of x ++ l) (list_words-append xs ys) ∙ sym (append_assoc (nodes_of x) (list_words xs) (list_words ys))

list_floats-append : (xs ys : List (List Neighbor)) → list_floats (xs ++ ys) ≡ list_floats xs ++ list_floats ys
unfolding list_floats
list_floats-append [] ys = refl
list_floats-append (x ∷ xs) ys = ap (λ (l : List Float). distances_of x ++ l) (list_floats-append xs ys) ∙ sym (append_assoc (distances_of x) (list_floats xs) (list_floats ys))

-- the first m parts and the next
parts : {A : Type 0} (k m : ℕ) (xs : List A) → take (m * k) xs ++ (take k (part k m xs) ++ []) ≡ take (suc m * k) xs
unfolding part
parts {A} k m xs =
    ap (λ (l : List A). take (m * k) xs ++ l) (append-nil (take k (part k m xs)) ∙ take-take k k (drop (m * k) xs) (omega arith))
    ∙ sym (ap (λ (j : ℕ). take j xs) (suc-mul m k) ∙ take-add (m * k) k xs)

pub length_part : {A : Type 0} (k m n : ℕ) (xs : List A) → m < n → n * k ≤ length xs → k ≤ length (part k m xs)
unfolding part
length_part k m n xs l h =
    let r : suc m * k ≤ n * k = mul-le-mul_right k l in
    let e = suc-mul m k in
    simp (length-take, length-drop) (omega arith)

module _ (n k : ℕ) (us : List ℕ) (fs : List Float) (h : n * k ≤ length us) (g : n * k ≤ length fs) where
  abbrev some : ℕ → List (List Neighbor)
  some m = each (λ (i : ℕ). entries k (part k i us) (part k i fs) ∷ []) m

  words-some : (m : ℕ) → m ≤ n → list_words (some m) ≡ take (m * k) us
  unfolding each list_words
  words-some zero l = rw (zero-mul k)
  words-some (suc m) l =
      list_words-append (some m) (entries k (part k m us) (part k m fs) ∷ [])
      ∙ ap (λ (r : List ℕ). r ++ (nodes_of (entries k (part k m us) (part k m fs)) ++ [])) (words-some m (omega arith))
      ∙ ap (λ (r : List ℕ). take (m * k) us ++ (r ++ [])) (nodes_of-entries k (part k m us) (part k m fs) (length_part k m n fs l g))
      ∙ parts k m us

  floats-some : (m : ℕ) → m ≤ n → list_floats (some m) ≡ take (m * k) fs
  unfolding each list_floats
  floats-some zero l = rw (zero-mul k)
  floats-some (suc m) l =
      list_floats-append (some m) (entries k (part k m us) (part k m fs) ∷ [])
      ∙ ap (λ (r : List Float). r ++ (distances_of (entries k (part k m us) (part k m fs)) ++ [])) (floats-some m (omega arith))
      ∙ ap (λ (r : List Float). take (m * k) fs ++ (r ++ [])) (distances_of-entries k (part k m us) (part k m fs) (length_part k m n us l h))
      ∙ parts k m fs

  pub words-again : list_words (lists_in n k us fs) ≡ take (n * k) us
  unfolding lists_in
  words-again = words-some n (omega arith)

  pub floats-again : list_floats (lists_in n k us fs) ≡ take (n * k) fs
  unfolding lists_in
  floats-again = floats-some n (omega arith)

-- ---- the three parts

module _ {n k : ℕ} {us : List ℕ} {fs : List Float} (sized : Sized n k us fs) (words : Words us) where
  abbrev base : ℕ
  base = n * k

  abbrev end : ℕ
  end = n * k + 260 * n

  abbrev clear : ℕ → Bool
  clear j = not (bit_at (drop end us) (n * n + j))

  abbrev formed : Bool
  formed = lists_formed n (lists_in n k us fs)

  tail_long : length (drop end us) ≡ marks n
  tail_long = let w = sized.words in length-drop end us ∙ omega arith

  tail_words : Words (drop end us)
  tail_words q = rw (get_or-drop end us q 0) (words (end + q))

  state_split : same_words us (descent_state n (descent_in n k us fs))
      ≡ (same_words (take (260 * n) (drop base us)) (context_words (contexts n base us n)) && same_words (drop end us) (pair_words (marks n) (each (λ (p : ℕ). bit_at (drop end us) p ∷ []) (n * n))))
  unfolding descent_state descent_in
  state_split =
      let w = sized.words in
      let f = sized.floats in
      let D = drop base us in
      let D-long = length-drop base us in
      let lw = list_words (lists_in n k us fs) in
      let cw = context_words (contexts n base us n) in
      let pw = pair_words (marks n) (each (λ (p : ℕ). bit_at (drop end us) p ∷ []) (n * n)) in
      let again : lw ≡ take base us = words-again n k us fs (omega arith) (omega arith) in
      ap (λ (ys : List ℕ). same_words ys (lw ++ (cw ++ pw))) (sym (take-append-drop base us))
      ∙ same-words-append (take base us) lw D (cw ++ pw) (ap length (sym again))
      ∙ ap (λ (b : Bool). b && same_words D (cw ++ pw)) (same-words (take base us) lw (sym again))
      ∙ ap (λ (ys : List ℕ). same_words ys (cw ++ pw)) (sym (take-append-drop (260 * n) D))
      ∙ same-words-append (take (260 * n) D) cw (drop (260 * n) D) pw (length-take-le (260 * n) D (omega arith) ∙ sym (length-contexts n base us n))
      ∙ ap (λ (ys : List ℕ). same_words (take (260 * n) D) cw && same_words ys pw) (drop-drop (260 * n) base us)

  pub whole_is : descent_formed n k us fs ≡ (formed && (all_below (list_test n base us) (4 * n) && all_below clear (32 * marks n - n * n)))
  unfolding descent_formed descent_in
  whole_is =
      let w = sized.words in
      let f = sized.floats in
      let sc = same_words (take (260 * n) (drop base us)) (context_words (contexts n base us n)) in
      let sb = same_words (drop end us) (pair_words (marks n) (each (λ (p : ℕ). bit_at (drop end us) p ∷ []) (n * n))) in
      let cf = contexts_formed n (contexts n base us n) in
      let again : fs ≡ list_floats (lists_in n k us fs) = sym (floats-again n k us fs (omega arith) (omega arith) ∙ take_all base fs (omega arith)) in
      ap (λ (b : Bool). b && (same_floats fs (list_floats (lists_in n k us fs)) && (formed && cf))) state_split
      ∙ ap (λ (b : Bool). (sc && sb) && (b && (formed && cf))) (same-floats fs (list_floats (lists_in n k us fs)) again)
      ∙ reorder sc sb formed cf
      ∙ ap (λ (b : Bool). formed && (b && sb)) (contexts_are n base us n (omega arith))
      ∙ ap (λ (b : Bool). formed && (all_below (list_test n base us) (4 * n) && b)) (bits_are n (drop end us) tail_long tail_words sized.nodes)
    where
      reorder : (a b c d : Bool) → ((a && b) && (c && d)) ≡ (c && ((a && d) && b))
      reorder true true true true = refl
      reorder true true true false = refl
      reorder true true false d = refl
      reorder true false true true = refl
      reorder true false true false = refl
      reorder true false false d = refl
      reorder false b true d = refl
      reorder false b false d = refl

  -- ---- the parts as they are lent

  all_same : (p q : ℕ → Bool) (m : ℕ) → ((i : ℕ) → i < m → p i ≡ q i) → all_below p m ≡ all_below q m
  unfolding all_below
  all_same p q zero h = refl
  all_same p q (suc m) h = ap (λ (b : Bool). b && p m) (all_same p q m (λ (i : ℕ) l. h i (omega arith))) ∙ ap (λ (b : Bool). all_below q m && b) (h m (omega arith))

  lent-contexts : (v : ℕ) → v ≡ 260 * n → all_below (λ (i : ℕ). member_test n (part 65 i (take v (drop base us)))) (4 * n) ≡ all_below (list_test n base us) (4 * n)
  unfolding part
  lent-contexts v e =
      rw e
      (all_same (λ (i : ℕ). member_test n (take 65 (drop (i * 65) (take (260 * n) (drop base us))))) (list_test n base us) (4 * n)
      (λ (i : ℕ) (l : i < 4 * n). ap (member_test n) (area_in (i * 65) 65 (260 * n) (drop base us) (omega arith) ∙ ap (take 65) (drop-drop (i * 65) base us))))

  pub by_lists : formed ≡ false → false ≡ descent_formed n k us fs
  by_lists e = sym (whole_is ∙ rw e)

  pub by_contexts : (v : ℕ) → v ≡ 260 * n → {b : Bool} → formed ≡ true → b ≡ all_below (λ (i : ℕ). member_test n (part 65 i (take v (drop base us)))) (4 * n) → b ≡ false → false ≡ descent_formed n k us fs
  by_contexts v e f g h = sym (whole_is ∙ rw (f, ← lent-contexts v e, ← g, h))

  pub by_bits : (v m : ℕ) → v ≡ 260 * n → m ≡ length us - end → {b c : Bool} → formed ≡ true → b ≡ all_below (λ (i : ℕ). member_test n (part 65 i (take v (drop base us)))) (4 * n) → b ≡ true
      → c ≡ all_below (λ (j : ℕ). not (bit_at (take m (drop end us)) (n * n + j))) (32 * marks n - n * n) → c ≡ descent_formed n k us fs
  by_bits v m e e' f g h x =
      let all : take m (drop end us) ≡ drop end us = take_all m (drop end us) (simp length-drop (omega arith)) in
      x ∙ ap (λ (ys : List ℕ). all_below (λ (j : ℕ). not (bit_at ys (n * n + j))) (32 * marks n - n * n)) all ∙ sym (whole_is ∙ rw (f, ← lent-contexts v e, ← g, h))
