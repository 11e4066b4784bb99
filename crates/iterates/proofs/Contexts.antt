-- The contexts of a well-formed state, copied: the same contexts, with lists that can be walked. Assumes nothing.
use mathlib.Core.Path.{◌≡◌, refl, sym, ap, ◌∙◌, subst}
use mathlib.Core.Bool.{Bool, true, false, true≢false}
use mathlib.Core.List.{List, [], ◌∷◌}
use Prim.Native.Nat.{ℕ, ◌+◌, ◌*◌, ◌≤◌, ◌<◌}
use native.Mathlib.Omega.{arith}
use borrow.Author.Tests.{ltb-true, ltb-false}
use lib.Dec.{ltb}
use lib.ListN.{length, take, drop, get_or, length-drop}
use lib.Seq.{length-take-le, drop-drop}
use Rattle.rules.specs.Loops.{each}
use Rattle.rules.specs.Descent.{Context}
use Rattle.rules.specs.Places.{same_words}
use Rattle.rules.specs.DescentPlaces.{member_words, members_in, context_in, members_formed}
use Rattle.rules.proofs.Tests.{both}
use Rattle.rules.proofs.Loops.{each-alike}
use Rattle.rules.proofs.Places.{members-front}
use Rattle.zeros.specs.Zeros.{all_below}
use Rattle.zeros.proofs.Laws.{all-at}
use Rattle.members.proofs.Laws.{area_in}
use Rattle.passes.specs.Passes.{Below, Members, contexts_in, ManyContexted}
use Rattle.descent_state.specs.State.{member_test}
use Rattle.descent_state.proofs.Members.{too_long}
use Rattle.descent_state.proofs.Contexts.{list_test}
use Rattle.descent_kept.proofs.Tested.{members-below}

-- ---- a context is told by its 260 words

-- the list at a of 260 words
members-at : (a : ℕ) (xs ys : List ℕ) → a + 65 ≤ 260 → take 260 xs ≡ take 260 ys → members_in (drop a xs) ≡ members_in (drop a ys)
members-at a xs ys h e =
    sym (members-front (drop a xs))
    ∙ ap members_in (sym (area_in a 65 260 xs h) ∙ ap (λ (zs : List ℕ). take 65 (drop a zs)) e ∙ area_in a 65 260 ys h)
    ∙ members-front (drop a ys)

pub same_context : (xs ys : List ℕ) → take 260 xs ≡ take 260 ys → context_in xs ≡ context_in ys
unfolding context_in
same_context xs ys e =
    rw (members-at 0 xs ys (omega arith) e, members-at 65 xs ys (omega arith) e, members-at 130 xs ys (omega arith) e, members-at 195 xs ys (omega arith) e)

-- ---- a list that the test passes

first_word : (xs : List ℕ) → get_or (take 65 xs) 0 0 ≡ get_or xs 0 0
first_word [] = refl
first_word (x ∷ xs) = refl

pub walkable : (n : ℕ) (xs : List ℕ) → 65 ≤ length xs → member_test n (take 65 xs) ≡ true → Members n xs
unfolding member_test
walkable n xs long h =
    record { room = long; few = go (ltb 64 (get_or xs 0 0)) refl; below = subst (Below n) (members-front xs) (members-below n (members_in (take 65 xs)) (both (same_words (take 65 xs) (member_words (members_in (take 65 xs)))) (members_formed n (members_in (take 65 xs))) h).1) }
  where
    go : (b : Bool) → ltb 64 (get_or xs 0 0) ≡ b → get_or xs 0 0 ≤ 64
    go false f = ltb-false 64 (get_or xs 0 0) f
    go true f =
        let big = ltb-true 64 (get_or xs 0 0) f in
        let first = first_word xs in
        absurd (true≢false (sym h ∙ sym (too_long n (take 65 xs) (length-take-le 65 xs long) (omega arith))))

-- ---- a copy

module _ (n base : ℕ) (us ws : List ℕ) (e : take (260 * n) ws ≡ take (260 * n) (drop base us)) (room : 260 * n ≤ length ws) (good : all_below (list_test n base us) (4 * n) ≡ true) where
  area_of : (a m : ℕ) → a + m ≤ 260 * n → take m (drop a ws) ≡ take m (drop (base + a) us)
  area_of a m h =
      sym (area_in a m (260 * n) ws h) ∙ ap (λ (zs : List ℕ). take m (drop a zs)) e ∙ area_in a m (260 * n) (drop base us) h ∙ ap (take m) (drop-drop a base us)

  pub contexts_copied : contexts_in n ws ≡ each (λ (i : ℕ). context_in (drop (base + 260 * i) us) ∷ []) n
  unfolding contexts_in
  contexts_copied =
      each-alike (λ (i : ℕ). context_in (drop (260 * i) ws) ∷ []) (λ (i : ℕ). context_in (drop (base + 260 * i) us) ∷ []) n
      (λ (i : ℕ) (h : i < n). ap (λ (c : Context). c ∷ []) (same_context (drop (260 * i) ws) (drop (base + 260 * i) us) (area_of (260 * i) 260 (omega arith))))

  members_of : (i j m a : ℕ) → i < n → j < 4 → m ≡ 4 * i + j → a ≡ 65 * j → Members n (drop a (drop (260 * i) ws))
  members_of i j m a h l em ea =
      let test = all-at (list_test n base us) (4 * n) m good (omega arith) in
      let place : 260 * i + a ≡ m * 65 = omega arith in
      let there : base + m * 65 ≡ base + (260 * i + a) = omega arith in
      let same : take 65 (drop a (drop (260 * i) ws)) ≡ take 65 (drop (base + m * 65) us) =
      ap (take 65) (drop-drop a (260 * i) ws) ∙ area_of (260 * i + a) 65 (omega arith) ∙ ap (λ (p : ℕ). take 65 (drop p us)) (sym there) in
      let inside = length-drop (260 * i + a) ws in
      walkable n (drop a (drop (260 * i) ws)) (rw (drop-drop a (260 * i) ws) (omega arith)) (ap (member_test n) same ∙ test)

  pub contexts_walkable : ManyContexted n ws
  contexts_walkable =
      record {
        each = λ (i : ℕ) (h : i < n).
            record {
              new = members_of i 0 (4 * i + 0) 0 h (omega arith) refl refl;
              old = members_of i 1 (4 * i + 1) 65 h (omega arith) refl refl;
              reversed_new = members_of i 2 (4 * i + 2) 130 h (omega arith) refl refl;
              reversed_old = members_of i 3 (4 * i + 3) 195 h (omega arith) refl refl;
            };
        room = room;
      }
