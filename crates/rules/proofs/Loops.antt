-- Laws of the loops that the rules are written with, for any loop. Assumes nothing.
use mathlib.Core.Path.{◌≡◌, refl, sym, ap, ◌∙◌}
use mathlib.Core.Bool.{Bool, true, false, cond, ◌||◌}
use mathlib.Core.List.{List, [], ◌∷◌, ◌++◌}
use Prim.Native.Nat.{ℕ, zero, suc, ◌+◌, ◌-◌, ◌*◌, ◌≤◌, ◌<◌}
use native.Mathlib.Nat.{suc-mul, zero-mul, le_refl, mul-le-mul_right}
use native.Mathlib.Numerals.{add-one}
use native.Mathlib.Omega.{arith}
use lib.Dec.{eqb, ltb}
use lib.ListN.{length, take, drop, get_or, drop_of_length-le, length-append, length-drop, get_or-append}
use lib.Seq.{drop-cons, drop-append-le, drop_at, take-append-le, take_all, get_or_at}
use borrow.Author.Tests.{ltb-true, ltb-false, eqb-true, eqb-false}
use Rattle.rules.specs.Loops.{turns, through, each, first_from, any_of, has, part}

-- ---- a turn for each of a list: what is left at turn i gives the whole

module _ {A S : Type 0} (f : A → S → S) where
  pub through_turn : (xs : List A) (i : ℕ) (z : A) (s : S) → i < length xs → through f (drop (i + 1) xs) (f (get_or xs i z) s) ≡ through f (drop i xs) s
  unfolding through
  through_turn xs i z s h = rw (add-one, drop-cons xs i z)

  pub through-end : (xs : List A) (i : ℕ) (s : S) → length xs ≤ i → through f (drop i xs) s ≡ s
  unfolding through
  through-end xs i s h = ap (λ (l : List A). through f l s) (drop_of_length-le xs {i = i} h)

  pub through-append : (xs ys : List A) (s : S) → through f (xs ++ ys) s ≡ through f ys (through f xs s)
  unfolding through
  through-append [] ys s = refl
  through-append (x ∷ xs) ys s = through-append xs ys (f x s)

-- ---- the turns 0, 1, .., n - 1

pub turns_turn : {S : Type 0} (f : ℕ → S → S) (i : ℕ) (s : S) → f i (turns f i s) ≡ turns f (i + 1) s
unfolding turns
turns_turn f i s = rw add-one

-- ---- rows of w places

pub row_in : (n w q : ℕ) → q < n → q * w + w ≤ n * w
row_in n w q l = let m : suc q * w ≤ n * w = mul-le-mul_right w l in let u = suc-mul q w in omega arith

-- ---- lists one behind the other

pub each_turn : {A : Type 0} (f : ℕ → List A) (i : ℕ) → each f i ++ f i ≡ each f (i + 1)
unfolding each
each_turn f i = rw add-one

module _ {A : Type 0} (f : ℕ → List A) (w : ℕ) (long : (q : ℕ) → length (f q) ≡ w) where
  pub length-each : (n : ℕ) → length (each f n) ≡ n * w
  unfolding each
  length-each zero = sym (zero-mul w)
  length-each (suc i) =
      let u = length-each i in
      let v = long i in
      let m = suc-mul i w in
      length-append (each f i) (f i) ∙ omega arith

  -- the q-th part of them
  pub part-each : (q n : ℕ) → q < n → part w q (each f n) ≡ f q
  unfolding each part
  part-each q zero h = absurd (omega arith)
  part-each q (suc i) h = go (ltb q i) refl (part-each q i)
    where
      go : (b : Bool) → ltb q i ≡ b → (q < i → take w (drop (q * w) (each f i)) ≡ f q) → take w (drop (q * w) (each f i ++ f i)) ≡ f q
      go true e ih =
          let l : suc q ≤ i = ltb-true q i e in
          let m = row_in i w q l in
          let v = length-each i in
          let r = length-drop (q * w) (each f i) in
          ap (take w) (drop-append-le (q * w) (each f i) (f i) (omega arith))
          ∙ take-append-le w (drop (q * w) (each f i)) (f i) (omega arith)
          ∙ ih l
      go false e ih =
          let l = ltb-false q i e in
          let same : q ≡ i = omega arith in
          let v = long i in
          rw same (ap (take w) (drop_at (each f i) (f i) (i * w) (length-each i)) ∙ take_all w (f i) (omega arith))

-- lists that agree below n
pub each-alike : {A : Type 0} (f g : ℕ → List A) (n : ℕ) → ((i : ℕ) → i < n → f i ≡ g i) → each f n ≡ each g n
unfolding each
each-alike f g zero h = refl
each-alike {A} f g (suc n) h =
    ap (λ (l : List A). l ++ f n) (each-alike f g n (λ (i : ℕ) l. h i (omega arith))) ∙ ap (λ (l : List A). each g n ++ l) (h n (omega arith))

-- ---- one for each of the places below n

module _ {A : Type 0} (f : ℕ → A) where
  abbrev pub ones : ℕ → List A
  ones n = each (λ (i : ℕ). f i ∷ []) n

  pub length-ones : (n : ℕ) → length (ones n) ≡ n
  length-ones n = length-each (λ (i : ℕ). f i ∷ []) 1 (λ (i : ℕ). refl) n ∙ omega arith

  pub get_d_ones : (n i : ℕ) (z : A) → i < n → get_or (ones n) i z ≡ f i
  unfolding each
  get_d_ones zero i z h = absurd (omega arith)
  get_d_ones (suc n) i z h = go (ltb i n) refl (get_d_ones n i z)
    where
      go : (b : Bool) → ltb i n ≡ b → (i < n → get_or (ones n) i z ≡ f i) → get_or (ones n ++ (f n ∷ [])) i z ≡ f i
      go true e ih =
          let l = ltb-true i n e in
          let long = length-ones n in
          get_or-append (ones n) (f n ∷ []) z i (omega arith) ∙ ih l
      go false e ih =
          let l = ltb-false i n e in
          let same : n ≡ i = omega arith in
          get_or_at (ones n) (f n) [] z i (length-ones n ∙ same) ∙ ap f same

-- ---- the first place of which a test holds, with t places to try

module _ (p : ℕ → Bool) where
  pub first-from : (i t : ℕ) → i ≤ first_from p i t
  unfolding first_from
  first-from i zero = le_refl i
  first-from i (suc t) = go (p i) (first-from (suc i) t)
    where
      go : (b : Bool) → suc i ≤ first_from p (suc i) t → i ≤ cond b i (first_from p (suc i) t)
      go true h = le_refl i
      go false h = omega arith

  -- the test holds there, and of none before
  pub first_holds : (i t : ℕ) → first_from p i t < i + t → p (first_from p i t) ≡ true
  unfolding first_from
  first_holds i zero h = absurd (omega arith)
  first_holds i (suc t) h = go (p i) refl (first_holds (suc i) t) h
    where
      go : (b : Bool) → p i ≡ b → (first_from p (suc i) t < suc i + t → p (first_from p (suc i) t) ≡ true)
          → cond b i (first_from p (suc i) t) < i + suc t → p (cond b i (first_from p (suc i) t)) ≡ true
      go true e ih g = e
      go false e ih g = ih (omega arith)

  pub first-before : (i t j : ℕ) → i ≤ j → j < first_from p i t → p j ≡ false
  unfolding first_from
  first-before i zero j l h = absurd (omega arith)
  first-before i (suc t) j l h = go (p i) refl (first-before (suc i) t j) h
    where
      go : (b : Bool) → p i ≡ b → (suc i ≤ j → j < first_from p (suc i) t → p j ≡ false) → j < cond b i (first_from p (suc i) t) → p j ≡ false
      go true e ih g = absurd (omega arith)
      go false e ih g = at (eqb i j) refl
        where
          at : (b : Bool) → eqb i j ≡ b → p j ≡ false
          at true q = ap p (sym (eqb-true i j q)) ∙ e
          at false q = let n = eqb-false i j q in ih (omega arith) g

-- a search that tries the places below n: at place i, with those left to try
module _ (p : ℕ → Bool) (n i : ℕ) where
  pub first-here : i < n → p i ≡ true → first_from p i (n - i) ≡ i
  unfolding first_from
  first-here h e = let s : n - i ≡ suc (n - suc i) = omega arith in rw s (simp e)

  pub first_turn : i < n → p i ≡ false → first_from p (i + 1) (n - (i + 1)) ≡ first_from p i (n - i)
  unfolding first_from
  first_turn h e = let s : n - i ≡ suc (n - suc i) = omega arith in rw (s, add-one) (simp e)

  pub first-begun : first_from p i (n - 0) ≡ first_from p i n
  first-begun = ap (first_from p i) (let e : n - 0 ≡ n = omega arith in e)

  pub first-end : n ≤ i → first_from p i (n - i) ≡ i
  unfolding first_from
  first-end h = let s : n - i ≡ 0 = omega arith in rw s

-- ---- whether a test holds of one of a list: at place i

module _ {A : Type 0} (p : A → Bool) (xs : List A) (i : ℕ) where
  pub any_here : (z : A) → i < length xs → p (get_or xs i z) ≡ true → any_of p (drop i xs) ≡ true
  unfolding any_of
  any_here z h e = rw (drop-cons xs i z, e)

  pub any_turn : (z : A) → i < length xs → p (get_or xs i z) ≡ false → any_of p (drop (i + 1) xs) ≡ any_of p (drop i xs)
  unfolding any_of
  any_turn z h e = rw (add-one, drop-cons xs i z, e)

  pub any_end : length xs ≤ i → any_of p (drop i xs) ≡ false
  unfolding any_of
  any_end h = ap (any_of p) (drop_of_length-le xs {i = i} h)

pub has_any : (v : ℕ) (xs : List ℕ) → has v xs ≡ any_of (eqb v) xs
unfolding has any_of
has_any v [] = refl
has_any v (x ∷ xs) = ap (λ (b : Bool). eqb v x || b) (has_any v xs)
