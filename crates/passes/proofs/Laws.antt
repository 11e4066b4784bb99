-- Turns that each change a descent's state, and the pairs of a pass as such turns. Assumes nothing.
use mathlib.Core.Path.{◌≡◌, refl, sym, ap, ◌∙◌, subst}
use mathlib.Core.Bool.{Bool, true, false, cond}
use mathlib.Core.List.{List, [], ◌∷◌, ◌++◌, map, append_assoc, append-nil}
use Prim.Native.Nat.{ℕ, zero, suc, ◌+◌, ◌*◌, ◌≤◌, zero-le}
use native.Mathlib.Nat.{suc-mul}
use native.Mathlib.Numerals.{add-one}
use native.Mathlib.Omega.{arith}
use lib.Dec.{ltb}
use lib.ListN.{length, drop, get_or}
use lib.Ieee.{Float}
use Rattle.rules.specs.Loops.{turns, through, each}
use Rattle.rules.specs.Descent.{Met, Pair, pair, cross, own_pairs, rising_with, rising_pairs, passes}
use Rattle.rules.proofs.Loops.{turns_turn, through-append}
use Rattle.meets.specs.Meets.{Game, Holds, Does}
use Rattle.rules.specs.DescentPlaces.{context_in}
use Rattle.passes.specs.Passes.{joins, one_pair, row_pairs, first_of, Within, pass_pairs, early_pairs, late_pairs, MembersOf}

-- ---- one change after another

does_as : {n k b b' : ℕ} {f g : Met → Met} {us us' : List ℕ} {fs fs' : List Float} {c c' : ℕ} → ((m : Met) → f m ≡ g m) → b ≤ b' → Does n k b f us fs c us' fs' c' → Does n k b' g us fs c us' fs' c'
does_as {n} {k} {b} {b'} {f} {g} {us} {us'} {fs} {fs'} {c} {c'} e l d =
    let most = d.most in
    record {
      held = λ m h. subst (λ (x : Met). Holds n k x us' fs' c') (e m) (d.held m h);
      words_long = d.words_long;
      floats_long = d.floats_long;
      most = omega arith;
    }

pub does_then : {n k a b : ℕ} {f g : Met → Met} {us us' us'' : List ℕ} {fs fs' fs'' : List Float} {c c' c'' : ℕ}
    → Does n k a f us fs c us' fs' c' → Does n k b g us' fs' c' us'' fs'' c'' → Does n k (a + b) (λ m. g (f m)) us fs c us'' fs'' c''
does_then {n} {k} {a} {b} {f} {g} d e =
    let low = d.most in
    let high = e.most in
    record {
      held = λ m h. e.held (f m) (d.held m h);
      words_long = e.words_long ∙ d.words_long;
      floats_long = e.floats_long ∙ d.floats_long;
      most = omega arith;
    }

-- the state as it stands
pub does_nothing : {n k : ℕ} {f : Met → Met} {us : List ℕ} {fs : List Float} {c : ℕ} (b : ℕ) → ((m : Met) → m ≡ f m) → Does n k b f us fs c us fs c
does_nothing {n} {k} {f} {us} {fs} {c} b e =
    record { held = λ m h. subst (λ (x : Met). Holds n k x us fs c) (e m) h; words_long = refl; floats_long = refl; most = omega arith }

-- i turns, each at a cost of at most b
module _ (n k b : ℕ) (g : ℕ → Met → Met) where
  abbrev pub Doing : List ℕ → List Float → ℕ → List ℕ → List Float → ℕ → ℕ → Type 0
  Doing us fs c us' fs' c' i = Does n k (i * b) (turns g i) us fs c us' fs' c'

  pub doing_none : (us : List ℕ) (fs : List Float) (c : ℕ) → Doing us fs c us fs c 0
  unfolding turns
  doing_none us fs c = does_nothing (0 * b) (λ m. refl)

  pub doing_more : {us us' us'' : List ℕ} {fs fs' fs'' : List Float} {c c' c'' : ℕ} {i a : ℕ} → Doing us fs c us' fs' c' i → Does n k a (g i) us' fs' c' us'' fs'' c'' → a ≤ b → Doing us fs c us'' fs'' c'' (i + 1)
  doing_more {us} {us'} {us''} {fs} {fs'} {fs''} {c} {c'} {c''} {i} {a} d e l =
      let one = add-one i in
      let more = suc-mul i b in
      let room : i * b + a ≤ (i + 1) * b = rw one (omega arith) in
      does_as (λ m. turns_turn g i m) room (does_then d e)

  pub doing_end : {us us' : List ℕ} {fs fs' : List Float} {c c' most : ℕ} {f : Met → Met} (i : ℕ) → Doing us fs c us' fs' c' i → ((m : Met) → turns g i m ≡ f m) → i * b ≤ most → Does n k most f us fs c us' fs' c'
  doing_end i d e l = does_as e l d

-- ---- the pairs of a pass, place by place

-- the turns of a loop as one list of what they are taken over
pub turns-each : {A S : Type 0} (F : A → S → S) (f : ℕ → List A) (n : ℕ) (s : S) → turns (λ (i : ℕ). through F (f i)) n s ≡ through F (each f n) s
unfolding turns through each
turns-each F f zero s = refl
turns-each F f (suc n) s = ap (through F (f n)) (turns-each F f n s) ∙ sym (through-append F (each f n) (f n) s)

-- the first list comes first
each-front : {A : Type 0} (f : ℕ → List A) (n : ℕ) → each f (suc n) ≡ f 0 ++ each (λ (i : ℕ). f (suc i)) n
unfolding each
each-front f zero = sym (append-nil (f 0))
each-front {A} f (suc n) = ap (λ (l : List A). l ++ f (suc n)) (each-front f n) ∙ append_assoc (f 0) (each (λ (i : ℕ). f (suc i)) n) (f (suc n))

-- a list of pairs made place by place, from a node, those from its place on and those behind it
module _ (P : List ℕ → List Pair) (h : ℕ → List ℕ → List ℕ → List Pair) (none : P [] ≡ []) (more : (x : ℕ) (xs : List ℕ) → P (x ∷ xs) ≡ h x (x ∷ xs) xs ++ P xs) where
  place_by_place : (xs : List ℕ) → each (λ (i : ℕ). h (get_or xs i 0) (drop i xs) (drop (suc i) xs)) (length xs) ≡ P xs
  unfolding each
  place_by_place [] = sym none
  place_by_place (x ∷ xs) =
      each-front (λ (i : ℕ). h (get_or (x ∷ xs) i 0) (drop i (x ∷ xs)) (drop i xs)) (length xs)
      ∙ ap (λ (l : List Pair). h x (x ∷ xs) xs ++ l) (place_by_place xs) ∙ sym (more x xs)

pub row_is : (rising : Bool) (u : ℕ) (vs : List ℕ) → each (λ (i : ℕ). one_pair rising u (get_or vs i 0)) (length vs) ≡ row_pairs rising u vs
unfolding joins one_pair row_pairs rising_with
row_is rising u vs = place_by_place (row_pairs rising u) (λ y here behind. one_pair rising u y) (none rising) (more rising) vs
  where
    none : (r : Bool) → cond r (rising_with u []) (map (pair u) []) ≡ []
    none true = refl
    none false = refl

    split : (b : Bool) (p : Pair) (ps : List Pair) → cond b (p ∷ ps) ps ≡ cond b (p ∷ []) [] ++ ps
    split true p ps = refl
    split false p ps = refl

    more : (r : Bool) (y : ℕ) (ys : List ℕ) → row_pairs r u (y ∷ ys) ≡ one_pair r u y ++ row_pairs r u ys
    more true y ys = split (ltb u y) (pair u y) (rising_with u ys)
    more false y ys = refl

pub cross-is : (us vs : List ℕ) → pass_pairs false false us vs ≡ cross us vs
unfolding pass_pairs row_pairs first_of cross
cross-is us vs = place_by_place (λ xs. cross xs vs) (λ x here behind. map (pair x) vs) refl (λ x xs. refl) us

pub own_is : (us : List ℕ) → pass_pairs true false us us ≡ own_pairs us
unfolding pass_pairs row_pairs first_of own_pairs
own_is us = place_by_place own_pairs (λ x here behind. map (pair x) here) refl (λ x xs. refl) us

pub rising-is : (us : List ℕ) → pass_pairs true true us us ≡ rising_pairs us
unfolding pass_pairs row_pairs first_of rising_pairs
rising-is us = place_by_place rising_pairs (λ x here behind. rising_with x behind) refl (λ x xs. refl) us

-- ---- what the table leaves for a descent stays

pub game-kept : {dimension n k : ℕ} {lanes : List Float} {us us' : List ℕ} {fs fs' : List Float} → Game dimension n k lanes us fs → length us' ≡ length us → length fs' ≡ length fs → Game dimension n k lanes us' fs'
game-kept g e f =
    record { lanes_long = g.lanes_long; few = g.few; some = g.some; narrow = g.narrow; words = e ∙ g.words; floats = f ∙ g.floats }

-- ---- where partners begin

pub within_all : (us vs : List ℕ) → Within false false us vs
unfolding first_of
within_all us vs = record { each = λ i l. zero-le }

pub within-behind : (rising : Bool) (us : List ℕ) → Within true rising us us
unfolding first_of
within-behind true us = record { each = λ i l. l }
within-behind false us = record { each = λ i l. omega arith }

-- ---- pairs that meet

module _ {n k : ℕ} {us us' : List ℕ} {fs fs' : List Float} {c c' : ℕ} where
  -- a pair that meets, and one that does not
  pub one-joins : (F : Pair → Met → Met) (rising : Bool) (u v : ℕ) → joins rising u v ≡ true → Does n k 1 (F (pair u v)) us fs c us' fs' c' → Does n k 1 (through F (one_pair rising u v)) us fs c us' fs' c'
  unfolding through one_pair
  one-joins F rising u v h d = does_as (λ m. rw h) (omega arith) d

  -- the same pairs, said another way
  pub does_pairs : {b : ℕ} (F : Pair → Met → Met) {ps qs : List Pair} → ps ≡ qs → Does n k b (through F ps) us fs c us' fs' c' → Does n k b (through F qs) us fs c us' fs' c'
  does_pairs {b} F e d = subst (λ (l : List Pair). Does n k b (through F l) us fs c us' fs' c') e d

  -- the turns of a loop over pairs
  pub doing_pairs : {most : ℕ} (b : ℕ) (F : Pair → Met → Met) (f : ℕ → List Pair) {qs : List Pair} (i : ℕ) → Doing n k b (λ (j : ℕ). through F (f j)) us fs c us' fs' c' i → each f i ≡ qs → i * b ≤ most → Does n k most (through F qs) us fs c us' fs' c'
  doing_pairs b F f i d e l = does_pairs F e (doing_end n k b (λ (j : ℕ). through F (f j)) i d (turns-each F f i) l)

pub one-passed : {n k : ℕ} {us : List ℕ} {fs : List Float} {c : ℕ} (F : Pair → Met → Met) (rising : Bool) (u v : ℕ) → joins rising u v ≡ false → Does n k 1 (through F (one_pair rising u v)) us fs c us fs c
unfolding through one_pair
one-passed F rising u v h = does_nothing 1 (λ m. rw h)

pub does_append : {n k a b : ℕ} {us us' us'' : List ℕ} {fs fs' fs'' : List Float} {c c' c'' : ℕ} (F : Pair → Met → Met) (ps qs : List Pair)
    → Does n k a (through F ps) us fs c us' fs' c' → Does n k b (through F qs) us' fs' c' us'' fs'' c'' → Does n k (a + b) (through F (ps ++ qs)) us fs c us'' fs'' c''
does_append F ps qs d e = does_as (λ m. sym (through-append F ps qs m)) (omega arith) (does_then d e)

-- the part of a list that the code cuts out
pub does_part : {n k : ℕ} {us us' : List ℕ} {fs fs' : List Float} {c c' : ℕ} (F : Pair → Met → Met) (h : List ℕ → List Pair) {vs vs' : List ℕ} → vs ≡ vs'
    → Does n k (length vs) (through F (h vs)) us fs c us' fs' c' → Does n k (length vs') (through F (h vs')) us fs c us' fs' c'
does_part {n} {k} {us} {us'} {fs} {fs'} {c} {c'} F h e d = subst (λ (l : List ℕ). Does n k (length l) (through F (h l)) us fs c us' fs' c') e d

-- ---- the seven passes

pub passes_are : {n : ℕ} {ctx new old reversed_new reversed_old : List ℕ} → MembersOf n (drop 0 ctx) new → MembersOf n (drop 65 ctx) old → MembersOf n (drop 130 ctx) reversed_new → MembersOf n (drop 195 ctx) reversed_old
    → early_pairs new old reversed_new ++ late_pairs new old reversed_new reversed_old ≡ passes (context_in ctx)
unfolding early_pairs late_pairs passes context_in
passes_are {n} {ctx} {new} {old} {reversed_new} {reversed_old} M1 M2 M3 M4 =
    append_assoc (own_pairs new) _ _ ∙ ap (λ (l : List Pair). own_pairs new ++ l) (append_assoc (cross new old) _ _) ∙ rw (M1.list, M2.list, M3.list, M4.list)
