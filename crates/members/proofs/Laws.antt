-- A context list in its 65 words. Assumes nothing.
use mathlib.Core.Path.{◌≡◌, refl, sym, ap, ◌∙◌}
use mathlib.Core.List.{List, [], ◌∷◌, ◌++◌, append_assoc}
use Prim.Native.Nat.{ℕ, zero, suc, ◌+◌, ◌≤◌, ◌<◌}
use native.Mathlib.Omega.{arith}
use lib.ListN.{length, take, drop, set, replicate}
use lib.Seq.{take-take}
use borrow.Rule.Slice.PartMut.{put_mid}
use Rattle.rules.specs.Loops.{turns}
use Rattle.rules.specs.Places.{padded}
use Rattle.rules.specs.Descent.{Context}
use Rattle.rules.specs.DescentPlaces.{member_words, context_words}
use Rattle.rules.proofs.Places.{drop-replicate}

-- zeros, the length put at their front, and the members behind it
pub put : (src dst zs ys : List ℕ) (w : ℕ) → length dst ≡ 65 → zs ≡ replicate (length dst) 0 → w ≡ length src → ys ≡ src → put_mid 1 w (set zs 0 (length src)) ys ≡ member_words src
unfolding member_words padded
put src dst zs ys w l z e f =
    let n = length src in
    ap (λ (l : List ℕ). put_mid 1 w (set l 0 n) ys) (z ∙ ap (λ (m : ℕ). replicate m 0) l)
    ∙ ap (λ (m : ℕ). n ∷ (ys ++ drop m (replicate 64 0))) e
    ∙ ap (λ (l : List ℕ). n ∷ (l ++ drop n (replicate 64 0))) f
    ∙ ap (λ (l : List ℕ). n ∷ (src ++ l)) (drop-replicate n 64 0)

-- a part of a part
pub area_in : {A : Type 0} (a m c : ℕ) (xs : List A) → a + m ≤ c → take m (drop a (take c xs)) ≡ take m (drop a xs)
area_in zero m c xs l = take-take m c xs (omega arith)
area_in (suc a) m zero xs l = absurd (omega arith)
area_in (suc a) m (suc c) [] l = refl
area_in (suc a) m (suc c) (x ∷ xs) l = area_in a m c xs (omega arith)

-- ---- the contexts of all nodes as words

pub words_append : (xs ys : List Context) → context_words (xs ++ ys) ≡ context_words xs ++ context_words ys
unfolding context_words
words_append [] ys = refl
words_append (c ∷ xs) ys =
    let a = member_words c.new in
    let b = member_words c.old in
    let d = member_words c.reversed_new in
    let e = member_words c.reversed_old in
    ap (λ (l : List ℕ). a ++ (b ++ (d ++ (e ++ l)))) (words_append xs ys)
    ∙ sym
    (append_assoc a (b ++ (d ++ (e ++ context_words xs))) (context_words ys)
    ∙ ap (λ (l : List ℕ). a ++ l)
    (append_assoc b (d ++ (e ++ context_words xs)) (context_words ys)
    ∙ ap (λ (l : List ℕ). b ++ l)
    (append_assoc d (e ++ context_words xs) (context_words ys) ∙ ap (λ (l : List ℕ). d ++ l) (append_assoc e (context_words xs) (context_words ys)))))

-- ---- loops over n nodes that do the same for each node

pub turns-alike : {S : Type 0} (f g : ℕ → S → S) (n : ℕ) → ((i : ℕ) → i < n → (s : S) → f i s ≡ g i s) → (s : S) → turns f n s ≡ turns g n s
unfolding turns
turns-alike f g zero h s = refl
turns-alike f g (suc n) h s = ap (f n) (turns-alike f g n (λ (i : ℕ) l. h i (omega arith)) s) ∙ h n (omega arith) (turns g n s)
