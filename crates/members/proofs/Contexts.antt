-- Contexts told by their lists: four of 65 words each, one node behind the other. Assumes nothing.
use mathlib.Core.Path.{◌≡◌, sym, ap, ◌∙◌}
use mathlib.Core.List.{List, [], ◌∷◌, ◌++◌}
use Prim.Native.Nat.{ℕ, suc, ◌+◌, ◌*◌, ◌<◌, zero-le, suc-le-suc}
use native.Mathlib.Omega.{arith}
use lib.ListN.{length, take, drop, get_or, take-append-drop, length-drop, drop_of_length-le}
use lib.Seq.{drop-drop}
use Rattle.rules.specs.Descent.{Context}
use Rattle.rules.specs.DescentPlaces.{member_words, context_words}
use Rattle.buffers.specs.Area.{area}

pub no_context : Context
no_context = record { new = []; old = []; reversed_new = []; reversed_old = [] }

-- the four lists of a context, from a place on
pub record Four (at : ℕ) (c : Context) (xs : List ℕ) : Type 0 where
  pub new : area at 65 xs ≡ member_words c.new
  pub old : area (at + 65) 65 xs ≡ member_words c.old
  pub reversed_new : area (at + 130) 65 xs ≡ member_words c.reversed_new
  pub reversed_old : area (at + 195) 65 xs ≡ member_words c.reversed_old

-- a list cut into four, and what is left
four_parts : (xs : List ℕ) → xs ≡ area 0 65 xs ++ (area 65 65 xs ++ (area 130 65 xs ++ (area 195 65 xs ++ drop 260 xs)))
four_parts xs =
    sym (take-append-drop 65 xs)
    ∙ ap (λ (l : List ℕ). area 0 65 xs ++ l) (next 65 ∙ ap (λ (l : List ℕ). area 65 65 xs ++ l) (next 130 ∙ ap (λ (l : List ℕ). area 130 65 xs ++ l) (next 195)))
  where
    next : (a : ℕ) → drop a xs ≡ area a 65 xs ++ drop (a + 65) xs
    next a = sym (take-append-drop 65 (drop a xs)) ∙ ap (λ (l : List ℕ). area a 65 xs ++ l) (drop-drop 65 a xs)

pub contexts_told : (cs : List Context) (xs : List ℕ) → length xs ≡ 260 * length cs → ((i : ℕ) → i < length cs → Four (260 * i) (get_or cs i no_context) xs) → xs ≡ context_words cs
unfolding context_words
contexts_told [] xs l h = drop_of_length-le xs {i = 0} (omega arith)
contexts_told (c ∷ cs) xs l h =
    let f = h 0 (suc-le-suc zero-le) in
    let rest = contexts_told cs (drop 260 xs) (length-drop 260 xs ∙ (let e = l in omega arith)) (λ i b. later i (h (suc i) (suc-le-suc b))) in
    four_parts xs
    ∙ ap (λ (l : List ℕ). l ++ (area 65 65 xs ++ (area 130 65 xs ++ (area 195 65 xs ++ drop 260 xs)))) f.new
    ∙ ap (λ (l : List ℕ). member_words c.new ++ (l ++ (area 130 65 xs ++ (area 195 65 xs ++ drop 260 xs)))) f.old
    ∙ ap (λ (l : List ℕ). member_words c.new ++ (member_words c.old ++ (l ++ (area 195 65 xs ++ drop 260 xs)))) f.reversed_new
    ∙ ap (λ (l : List ℕ). member_words c.new ++ (member_words c.old ++ (member_words c.reversed_new ++ (l ++ drop 260 xs)))) f.reversed_old
    ∙ ap (λ (l : List ℕ). member_words c.new ++ (member_words c.old ++ (member_words c.reversed_new ++ (member_words c.reversed_old ++ l)))) rest
  where
    move : (i a : ℕ) → area (260 * i + a) 65 (drop 260 xs) ≡ area (260 * suc i + a) 65 xs
    move i a = ap (take 65) (drop-drop (260 * i + a) 260 xs ∙ ap (λ (j : ℕ). drop j xs) (let e : 260 + (260 * i + a) ≡ 260 * suc i + a = omega arith in e))

    first : (i : ℕ) → area (260 * i) 65 (drop 260 xs) ≡ area (260 * suc i) 65 xs
    first i = ap (take 65) (drop-drop (260 * i) 260 xs ∙ ap (λ (j : ℕ). drop j xs) (let e : 260 + 260 * i ≡ 260 * suc i = omega arith in e))

    later : (i : ℕ) → Four (260 * suc i) (get_or cs i no_context) xs → Four (260 * i) (get_or cs i no_context) (drop 260 xs)
    later i f =
        record {
          new = first i ∙ f.new;
          old = move i 65 ∙ f.old;
          reversed_new = move i 130 ∙ f.reversed_new;
          reversed_old = move i 195 ∙ f.reversed_old;
        }
