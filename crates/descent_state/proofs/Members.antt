-- One list of a context: what 65 words tell. Assumes nothing.
use mathlib.Core.Path.{◌≡◌, refl, sym, ap, ◌∙◌}
use mathlib.Core.Bool.{Bool, true, false, ◌&&◌}
use mathlib.Core.List.{List, [], ◌∷◌, ◌++◌}
use Prim.Native.Nat.{ℕ, zero, suc, ◌+◌, ◌-◌, ◌≤◌, ◌<◌}
use native.Mathlib.Nat.{suc_inj}
use native.Mathlib.Numerals.{add-one}
use native.Mathlib.Omega.{arith}
use borrow.Author.Tests.{eq-eqb, ne_eqb}
use lib.Dec.{eqb, ltb}
use lib.ListN.{length, take, drop, get_or, replicate, length-take, length-drop, take-append-drop}
use lib.Seq.{take_all, length-take-le}
use Rattle.std.specs.List.{list_all}
use Rattle.rules.specs.Places.{padded, same_words}
use Rattle.rules.specs.DescentPlaces.{member_words, members_in, members_formed}
use Rattle.encoded.proofs.Same.{same-words, same-words-append}
use Rattle.zeros.specs.Zeros.{zeros}
use Rattle.descent_state.specs.State.{member_test}

-- the same as zeros
same-zeros : (xs : List ℕ) (m : ℕ) → length xs ≡ m → same_words xs (replicate m 0) ≡ zeros xs
unfolding same_words zeros
same-zeros [] zero e = refl
same-zeros [] (suc m) e = absurd (omega arith)
same-zeros (x ∷ xs) zero e = absurd (omega arith)
same-zeros (x ∷ xs) (suc m) e = ap (λ (b : Bool). eqb x 0 && b) (same-zeros xs m (suc_inj e))

module _ (n : ℕ) (us : List ℕ) (long : length us ≡ 65) where
  abbrev len : ℕ
  len = get_or us 0 0

  -- the length that stands there is more than the list can be
  pub too_long : 64 < len → false ≡ member_test n us
  unfolding member_test member_words members_in same_words
  too_long h = go us long h
    where
      go : (xs : List ℕ) → length xs ≡ 65 → 64 < get_or xs 0 0 → false ≡ member_test n xs
      go [] e g = absurd (omega arith)
      go (x ∷ xs) e g =
          let l : length (take x (take 64 xs)) ≡ 64 = simp length-take (omega arith) in
          rw (l, ne_eqb x 64 (λ (q : x ≡ 64). absurd (omega arith)))

  module _ (h : len ≤ 64) where
    test-is : member_test n us ≡ (zeros (drop (len + 1) us) && members_formed n (take len (drop 1 us)))
    unfolding member_test member_words members_in padded same_words
    test-is = go us long h
      where
        go : (xs : List ℕ) → length xs ≡ 65 → get_or xs 0 0 ≤ 64 → member_test n xs ≡ (zeros (drop (get_or xs 0 0 + 1) xs) && members_formed n (take (get_or xs 0 0) (drop 1 xs)))
        go [] e g = absurd (omega arith)
        go (x ∷ xs) e g =
            let w : length xs ≡ 64 = suc_inj e in
            let l : length (take x xs) ≡ x = length-take-le x xs (omega arith) in
            let r : length (drop x xs) ≡ 64 - x = length-drop x xs ∙ omega arith in
            let same : same_words xs (take x xs ++ replicate (64 - x) 0) ≡ zeros (drop x xs) =
            ap (λ (ys : List ℕ). same_words ys (take x xs ++ replicate (64 - x) 0)) (sym (take-append-drop x xs))
            ∙ same-words-append (take x xs) (take x xs) (drop x xs) (replicate (64 - x) 0) refl
            ∙ rw (same-words (take x xs) (take x xs) refl) (same-zeros (drop x xs) (64 - x) r) in
            rw (take_all 64 xs (omega arith), l, eq-eqb x x refl, same, add-one)

    pub not_zeros : zeros (drop (len + 1) us) ≡ false → false ≡ member_test n us
    not_zeros e = sym (test-is ∙ rw e)

    pub all-zeros : zeros (drop (len + 1) us) ≡ true → members_formed n (take len (drop 1 us)) ≡ member_test n us
    all-zeros e = sym (test-is ∙ rw e)

-- ---- the members

pub formed-all : (n : ℕ) (xs : List ℕ) → members_formed n xs ≡ list_all (λ (v : ℕ). ltb v n) xs
unfolding members_formed
formed-all n [] = refl
formed-all n (x ∷ xs) = ap (λ (b : Bool). ltb x n && b) (formed-all n xs)
