-- The contexts of all nodes: four lists of 65 words each. Assumes nothing.
use mathlib.Core.Path.{◌≡◌, refl, sym, ap, ◌∙◌}
use mathlib.Core.Bool.{Bool, true, false, ◌&&◌}
use mathlib.Core.List.{List, [], ◌∷◌, ◌++◌, append-nil}
use Prim.Native.Nat.{ℕ, zero, suc, ◌+◌, ◌-◌, ◌*◌, ◌≤◌, ◌<◌}
use native.Mathlib.Omega.{arith}
use lib.ListN.{length, take, drop, length-append, length-drop}
use lib.Seq.{length-take-le, take-add, drop-drop}
use Rattle.rules.specs.Loops.{each, part}
use Rattle.rules.specs.Descent.{Context}
use Rattle.rules.specs.Places.{same_words}
use Rattle.rules.specs.DescentPlaces.{member_words, context_words, members_in, context_in, members_formed, contexts_formed}
use Rattle.rules.proofs.Tests.{and_assoc}
use Rattle.rules.proofs.Places.{length-padded, length-members, members-front}
use Rattle.encoded.proofs.Same.{same-words-append}
use Rattle.members.proofs.Laws.{words_append}
use Rattle.zeros.specs.Zeros.{all_below}
use Rattle.zeros.proofs.Laws.{all_none, all_turn, all-not}
use Rattle.descent_state.specs.State.{member_test}

-- ---- tests in another order

and_comm : (a b : Bool) → (a && b) ≡ (b && a)
and_comm true true = refl
and_comm true false = refl
and_comm false true = refl
and_comm false false = refl

pub and_across : (a b c d : Bool) → ((a && b) && (c && d)) ≡ ((a && c) && (b && d))
and_across true b true d = refl
and_across true b false d = and_comm b false
and_across false b c d = refl

-- ---- one list

length-member_words : (xs : List ℕ) → length (member_words (members_in xs)) ≡ 65
unfolding member_words
length-member_words xs = ap suc (length-padded 64 0 (members_in xs) (length-members xs))

module _ (n : ℕ) where
  abbrev same : List ℕ → Bool
  same xs = same_words (take 65 xs) (member_words (members_in xs))

  test_of : (xs : List ℕ) → member_test n (take 65 xs) ≡ (same xs && members_formed n (members_in xs))
  unfolding member_test
  test_of xs = ap (λ (ms : List ℕ). same_words (take 65 xs) (member_words ms) && members_formed n ms) (members-front xs)

  -- a list in front of other words
  in_front : (xs zs : List ℕ) (w : ℕ) → 65 + w ≤ length xs → same_words (take (65 + w) xs) (member_words (members_in xs) ++ zs) ≡ (same xs && same_words (take w (drop 65 xs)) zs)
  in_front xs zs w h =
      ap (λ (ys : List ℕ). same_words ys (member_words (members_in xs) ++ zs)) (take-add 65 w xs)
      ∙ same-words-append (take 65 xs) (member_words (members_in xs)) (take w (drop 65 xs)) zs (length-take-le 65 xs (omega arith) ∙ sym (length-member_words xs))

  -- ---- the four of one node

  abbrev test : List ℕ → Bool
  test xs = member_test n (take 65 xs)

  abbrev four : List ℕ → Bool
  four xs = ((test xs && test (drop 65 xs)) && test (drop 130 xs)) && test (drop 195 xs)

  row_same : (xs : List ℕ) → 260 ≤ length xs → same_words (take 260 xs) (context_words (context_in xs ∷ [])) ≡ (same xs && (same (drop 65 xs) && (same (drop 130 xs) && same (drop 195 xs))))
  unfolding context_words context_in same_words
  row_same xs h =
      let l1 : length (drop 65 xs) ≡ length xs - 65 = length-drop 65 xs in
      let l2 : length (drop 130 xs) ≡ length xs - 130 = length-drop 130 xs in
      let l3 : length (drop 195 xs) ≡ length xs - 195 = length-drop 195 xs in
      let m0 = member_words (members_in xs) in
      let m1 = member_words (members_in (drop 65 xs)) in
      let m2 = member_words (members_in (drop 130 xs)) in
      let m3 = member_words (members_in (drop 195 xs)) in
      in_front xs (m1 ++ (m2 ++ (m3 ++ []))) 195 h
      ∙ ap (λ (b : Bool). same xs && b)
      (in_front (drop 65 xs) (m2 ++ (m3 ++ [])) 130 (omega arith)
      ∙ ap (λ (b : Bool). same (drop 65 xs) && b)
      (ap (λ (ys : List ℕ). same_words (take 130 ys) (m2 ++ (m3 ++ []))) (drop-drop 65 65 xs)
      ∙ in_front (drop 130 xs) (m3 ++ []) 65 (omega arith)
      ∙ ap (λ (b : Bool). same (drop 130 xs) && b)
      (ap (λ (ys : List ℕ). same_words (take 65 ys) (m3 ++ [])) (drop-drop 65 130 xs) ∙ ap (same_words (take 65 (drop 195 xs))) (append-nil m3))))

  row-formed : (xs : List ℕ)
      → contexts_formed n (context_in xs ∷ [])
      ≡ (members_formed n (members_in xs) && (members_formed n (members_in (drop 65 xs)) && (members_formed n (members_in (drop 130 xs)) && members_formed n (members_in (drop 195 xs)))))
  unfolding contexts_formed context_in
  row-formed xs =
      and_comm (members_formed n (members_in xs) && (members_formed n (members_in (drop 65 xs)) && (members_formed n (members_in (drop 130 xs)) && members_formed n (members_in (drop 195 xs))))) true

  abbrev below : List ℕ → Bool
  below ys = members_formed n (members_in ys)

  row_is : (xs : List ℕ) → 260 ≤ length xs → (same_words (take 260 xs) (context_words (context_in xs ∷ [])) && contexts_formed n (context_in xs ∷ [])) ≡ four xs
  row_is xs h =
      ap (λ (b : Bool). b && contexts_formed n (context_in xs ∷ [])) (row_same xs h)
      ∙ ap (λ (b : Bool). (same xs && (same (drop 65 xs) && (same (drop 130 xs) && same (drop 195 xs)))) && b) (row-formed xs)
      ∙ and_across (same xs) (same (drop 65 xs) && (same (drop 130 xs) && same (drop 195 xs))) (below xs) (below (drop 65 xs) && (below (drop 130 xs) && below (drop 195 xs)))
      ∙ ap (λ (b : Bool). (same xs && below xs) && b) (and_across (same (drop 65 xs)) (same (drop 130 xs) && same (drop 195 xs)) (below (drop 65 xs)) (below (drop 130 xs) && below (drop 195 xs)))
      ∙ ap (λ (b : Bool). (same xs && below xs) && ((same (drop 65 xs) && below (drop 65 xs)) && b)) (and_across (same (drop 130 xs)) (same (drop 195 xs)) (below (drop 130 xs)) (below (drop 195 xs)))
      ∙ rw (← test_of xs, ← test_of (drop 65 xs), ← test_of (drop 130 xs), ← test_of (drop 195 xs))
      (sym (and_assoc (test xs && test (drop 65 xs)) (test (drop 130 xs)) (test (drop 195 xs)) ∙ and_assoc (test xs) (test (drop 65 xs)) (test (drop 130 xs) && test (drop 195 xs))))

-- ---- those of all nodes

formed-append : (n : ℕ) (xs ys : List Context) → contexts_formed n (xs ++ ys) ≡ (contexts_formed n xs && contexts_formed n ys)
unfolding contexts_formed
formed-append n [] ys = refl
formed-append n (c ∷ xs) ys =
    let m = members_formed n c.new && (members_formed n c.old && (members_formed n c.reversed_new && members_formed n c.reversed_old)) in
    ap (λ (b : Bool). m && b) (formed-append n xs ys) ∙ sym (and_assoc m (contexts_formed n xs) (contexts_formed n ys))

length-row : (xs : List ℕ) → length (context_words (context_in xs ∷ [])) ≡ 260
unfolding context_words context_in
length-row xs = rw (length-append, length-append, length-append, length-append, length-member_words xs, length-member_words (drop 65 xs), length-member_words (drop 130 xs), length-member_words (drop 195 xs))

module _ (n base : ℕ) (us : List ℕ) where
  abbrev pub context_at : ℕ → Context
  context_at i = context_in (drop (base + 260 * i) us)

  abbrev pub contexts : ℕ → List Context
  contexts i = each (λ (j : ℕ). context_at j ∷ []) i

  pub length-contexts : (i : ℕ) → length (context_words (contexts i)) ≡ 260 * i
  unfolding each context_words
  length-contexts zero = refl
  length-contexts (suc i) =
      let h = length-contexts i in
      let r = length-row (drop (base + 260 * i) us) in
      let e : 260 * suc i ≡ 260 * i + 260 = omega arith in
      ap length (words_append (contexts i) (context_at i ∷ [])) ∙ length-append (context_words (contexts i)) (context_words (context_at i ∷ [])) ∙ omega arith

  abbrev test_at : ℕ → Bool
  test_at m = member_test n (take 65 (drop m us))

  abbrev pub list_test : ℕ → Bool
  list_test m = test_at (base + m * 65)

  four_is : (i : ℕ) → (all_below list_test (4 * i) && four n (drop (base + 260 * i) us)) ≡ all_below list_test (4 * suc i)
  unfolding all_below
  four_is i =
      let q : 4 * suc i ≡ suc (suc (suc (suc (4 * i)))) = omega arith in
      let e0 : base + 260 * i ≡ base + 4 * i * 65 = omega arith in
      let e1 : base + 260 * i + 65 ≡ base + suc (4 * i) * 65 = omega arith in
      let e2 : base + 260 * i + 130 ≡ base + suc (suc (4 * i)) * 65 = omega arith in
      let e3 : base + 260 * i + 195 ≡ base + suc (suc (suc (4 * i))) * 65 = omega arith in
      let a = all_below list_test (4 * i) in
      let t0 = test_at (base + 4 * i * 65) in
      let t1 = test_at (base + suc (4 * i) * 65) in
      let t2 = test_at (base + suc (suc (4 * i)) * 65) in
      let t3 = test_at (base + suc (suc (suc (4 * i))) * 65) in
      rw (drop-drop 65 (base + 260 * i) us, drop-drop 130 (base + 260 * i) us, drop-drop 195 (base + 260 * i) us, e1, e2, e3, e0, q)
      (sym (and_assoc a ((t0 && t1) && t2) t3) ∙ ap (λ (b : Bool). b && t3) (sym (and_assoc a (t0 && t1) t2) ∙ ap (λ (b : Bool). b && t2) (sym (and_assoc a t0 t1))))

  -- the words of the first i contexts are those of well-formed lists
  pub contexts_are : (i : ℕ) → base + 260 * i ≤ length us
      → (same_words (take (260 * i) (drop base us)) (context_words (contexts i)) && contexts_formed n (contexts i)) ≡ all_below list_test (4 * i)
  unfolding each context_words contexts_formed all_below same_words
  contexts_are zero h = refl
  contexts_are (suc i) h =
      let D = drop base us in
      let cs = contexts i in
      let row = context_at i ∷ [] in
      let X = drop (base + 260 * i) us in
      let e : 260 * suc i ≡ 260 * i + 260 = omega arith in
      let D-long = length-drop base us in
      let X-long = length-drop (base + 260 * i) us in
      let first : same_words (take (260 * suc i) D) (context_words (cs ++ row)) ≡ (same_words (take (260 * i) D) (context_words cs) && same_words (take 260 X) (context_words row)) =
      ap (λ (m : ℕ). same_words (take m D) (context_words (cs ++ row))) e
      ∙ ap (λ (ys : List ℕ). same_words ys (context_words (cs ++ row))) (take-add (260 * i) 260 D)
      ∙ ap (same_words (take (260 * i) D ++ take 260 (drop (260 * i) D))) (words_append cs row)
      ∙ same-words-append (take (260 * i) D) (context_words cs) (take 260 (drop (260 * i) D)) (context_words row) (length-take-le (260 * i) D (omega arith) ∙ sym (length-contexts i))
      ∙ ap (λ (ys : List ℕ). same_words (take (260 * i) D) (context_words cs) && same_words (take 260 ys) (context_words row)) (drop-drop (260 * i) base us) in
      ap (λ (b : Bool). b && contexts_formed n (cs ++ row)) first
      ∙ ap (λ (b : Bool). (same_words (take (260 * i) D) (context_words cs) && same_words (take 260 X) (context_words row)) && b) (formed-append n cs row)
      ∙ and_across (same_words (take (260 * i) D) (context_words cs)) (same_words (take 260 X) (context_words row)) (contexts_formed n cs) (contexts_formed n row)
      ∙ ap (λ (b : Bool). b && (same_words (take 260 X) (context_words row) && contexts_formed n row)) (contexts_are i (omega arith))
      ∙ ap (λ (b : Bool). all_below list_test (4 * i) && b) (row_is n X (omega arith))
      ∙ four_is i

-- ---- from the front

pub record Forming (n count : ℕ) (us : List ℕ) (i : ℕ) : Type 0 where
  pub within : i ≤ count
  pub all : count ≡ 4 * n
  pub so_far : all_below (λ (j : ℕ). member_test n (part 65 j us)) i ≡ true

pub forming_none : {n count : ℕ} {us : List ℕ} → count ≡ 4 * n → Forming n count us 0
forming_none {n} {count} {us} e = record { within = omega arith; all = e; so_far = all_none (λ (j : ℕ). member_test n (part 65 j us)) }

module _ {n count : ℕ} {us : List ℕ} {i : ℕ} (inv : Forming n count us i) (w : ℕ) (e : w ≡ 65) where
  here : member_test n (take w (drop (i * 65) us)) ≡ member_test n (part 65 i us)
  unfolding part
  here = ap (λ (m : ℕ). member_test n (take m (drop (i * 65) us))) e

  pub forming_turn : {b : Bool} → i < count → b ≡ member_test n (take w (drop (i * 65) us)) → b ≡ true → Forming n count us (i + 1)
  forming_turn h f g =
      record { within = omega arith; all = inv.all; so_far = all_turn (λ (j : ℕ). member_test n (part 65 j us)) i inv.so_far (sym here ∙ sym f ∙ g) }

  pub forming_not : {b : Bool} → i < count → b ≡ member_test n (take w (drop (i * 65) us)) → b ≡ false → false ≡ all_below (λ (j : ℕ). member_test n (part 65 j us)) (4 * n)
  forming_not h f g = let all = inv.all in sym (all-not (λ (j : ℕ). member_test n (part 65 j us)) (4 * n) i (omega arith) (sym here ∙ sym f ∙ g))
