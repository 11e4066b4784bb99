-- Words and floats that are found the same are the same, and parts of equal length may be compared one by one. Assumes nothing.
use mathlib.Core.Path.{◌≡◌, refl, sym, ap, ◌∙◌}
use mathlib.Core.Bool.{Bool, true, ◌&&◌, true≢false}
use mathlib.Core.List.{List, [], ◌∷◌, ◌++◌, map}
use Prim.Native.Nat.{ℕ}
use native.Mathlib.Omega.{arith}
use lib.Dec.{eqb}
use lib.ListN.{length}
use lib.Ieee.{Float, binary32, to_bits}
use borrow.Author.Tests.{eqb-true, eq-eqb}
use Rattle.rules.specs.Places.{same_words, same_floats}
use Rattle.rules.proofs.Tests.{both, and_assoc}
use Rattle.neighbor.proofs.Bits.{bits-same}
use Rattle.encoded.specs.Words.{Binary32}

-- ---- words

pub same-words : (xs ys : List ℕ) → xs ≡ ys → same_words xs ys ≡ true
unfolding same_words
same-words xs ys e = rw e (self ys)
  where
    self : (l : List ℕ) → same_words l l ≡ true
    self [] = refl
    self (x ∷ l) = rw (eq-eqb x x refl) (self l)

pub words_same : (xs ys : List ℕ) → same_words xs ys ≡ true → xs ≡ ys
unfolding same_words
words_same [] [] h = refl
words_same [] (y ∷ ys) h = absurd (true≢false (sym h))
words_same (x ∷ xs) [] h = absurd (true≢false (sym h))
words_same (x ∷ xs) (y ∷ ys) h =
    let b = both (eqb x y) (same_words xs ys) h in
    let e = eqb-true x y b.0 in
    let f = words_same xs ys b.1 in
    (cc)

pub same-words-append : (xs ys zs ws : List ℕ) → length xs ≡ length ys → same_words (xs ++ zs) (ys ++ ws) ≡ (same_words xs ys && same_words zs ws)
unfolding same_words
same-words-append [] [] zs ws h = refl
same-words-append [] (y ∷ ys) zs ws h = absurd (omega arith)
same-words-append (x ∷ xs) [] zs ws h = absurd (omega arith)
same-words-append (x ∷ xs) (y ∷ ys) zs ws h =
    ap (λ (b : Bool). eqb x y && b) (same-words-append xs ys zs ws (omega arith)) ∙ sym (and_assoc (eqb x y) (same_words xs ys) (same_words zs ws))

-- ---- floats, by their bits: there is one NaN, so that equal bits are one value

pub same-floats : (xs ys : List Float) → xs ≡ ys → same_floats xs ys ≡ true
unfolding same_floats
same-floats xs ys e = same-words (map (to_bits binary32) xs) (map (to_bits binary32) ys) (ap (map (to_bits binary32)) e)

pub floats_same : (xs ys : List Float) → Binary32 xs → Binary32 ys → same_floats xs ys ≡ true → xs ≡ ys
unfolding same_floats
floats_same xs ys X Y h = go xs ys X Y (words_same (map (to_bits binary32) xs) (map (to_bits binary32) ys) h)
  where
    go : (xs ys : List Float) → Binary32 xs → Binary32 ys → map (to_bits binary32) xs ≡ map (to_bits binary32) ys → xs ≡ ys
    go [] [] X Y e = refl
    go [] (y ∷ ys) X Y e = absurd (let l = ap length e in omega arith)
    go (x ∷ xs) [] X Y e = absurd (let l = ap length e in omega arith)
    go (x ∷ xs) (y ∷ ys) X Y e =
        let p : to_bits binary32 x ≡ to_bits binary32 y = (cc) in
        let q : map (to_bits binary32) xs ≡ map (to_bits binary32) ys = (cc) in
        let f = bits-same x y X.0 Y.0 p in
        let g = go xs ys X.1 Y.1 q in
        (cc)

map-append : {A B : Type 0} (f : A → B) (xs ys : List A) → map f (xs ++ ys) ≡ map f xs ++ map f ys
map-append f [] ys = refl
map-append {A} {B} f (x ∷ xs) ys = ap (λ (l : List B). f x ∷ l) (map-append f xs ys)
