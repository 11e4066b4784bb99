-- A part of a list put back, and the live part of a row with more behind it. Assumes nothing.
use mathlib.Core.Path.{◌≡◌, refl, sym, ap, ◌∙◌}
use mathlib.Core.Bool.{Bool, true, false, cond}
use mathlib.Core.List.{List, [], ◌∷◌, ◌++◌, append_assoc}
use Prim.Native.Nat.{ℕ, zero, suc, ◌+◌, ◌-◌, ◌*◌, ◌≤◌, ◌<◌}
use native.Mathlib.Nat.{suc-mul, mul-le-mul_right}
use native.Mathlib.Omega.{arith}
use lib.Dec.{ltb}
use lib.ListN.{length, take, drop, replicate, length-append, length-drop, take-append-drop}
use lib.Seq.{length-take-le, take-append-le, drop-append-le, take_at, drop_at, drop-drop}
use borrow.Author.Tests.{ltb-true, ltb-false}
use Rattle.rules.specs.declared.Neighbor.{Neighbor}
use Rattle.rules.specs.Loops.{part, put_part}
use Rattle.rules.specs.Rows.{is_empty, empty_slot, live}
use Rattle.rules.specs.Build.{mark_next}
use Rattle.offers.proofs.Laws.{is_empty_lem}

-- ---- part q replaced

module _ {A : Type 0} (w q : ℕ) (ys xs : List A) (h : length ys ≡ w) (g : q * w + w ≤ length xs) where
  front : length (take (q * w) xs) ≡ q * w
  front = length-take-le (q * w) xs (omega arith)

  pub length-put : length (put_part w q ys xs) ≡ length xs
  unfolding put_part
  length-put =
      let a = front in
      let b = length-drop (q * w + w) xs in
      let c = length-append ys (drop (q * w + w) xs) in
      length-append (take (q * w) xs) (ys ++ drop (q * w + w) xs) ∙ omega arith

  pub part-put : part w q (put_part w q ys xs) ≡ ys
  unfolding part put_part
  part-put =
      ap (take w) (drop_at (take (q * w) xs) (ys ++ drop (q * w + w) xs) (q * w) front) ∙ take_at ys (drop (q * w + w) xs) w h

  -- another part stays
  pub part-other : (r : ℕ) → (r ≡ q → ⊥) → part w r (put_part w q ys xs) ≡ part w r xs
  unfolding part put_part
  part-other r ne = go (ltb r q) refl
    where
      a : List A
      a = take (q * w) xs

      early : r < q → (zs : List A) → take w (drop (r * w) (a ++ zs)) ≡ take w (drop (r * w) a)
      early l zs =
          let m : suc r * w ≤ q * w = mul-le-mul_right w l in
          let u = suc-mul r w in
          let f = front in
          let e = length-drop (r * w) a in
          ap (take w) (drop-append-le (r * w) a zs (omega arith)) ∙ take-append-le w (drop (r * w) a) zs (omega arith)

      go : (b : Bool) → ltb r q ≡ b → take w (drop (r * w) (a ++ (ys ++ drop (q * w + w) xs))) ≡ take w (drop (r * w) xs)
      go true e =
          let l = ltb-true r q e in
          early l (ys ++ drop (q * w + w) xs) ∙ sym (early l (drop (q * w) xs)) ∙ ap (λ (l : List A). take w (drop (r * w) l)) (take-append-drop (q * w) xs)
      go false e =
          let l = ltb-false r q e in
          let more : suc q ≤ r = omega arith in
          let m : suc q * w ≤ r * w = mul-le-mul_right w more in
          let u = suc-mul q w in
          let s : r * w ≡ (q * w + w) + (r * w - (q * w + w)) = omega arith in
          let f = front in
          let two : length (a ++ ys) ≡ q * w + w = length-append a ys ∙ omega arith in
          ap (take w)
          (ap (λ (i : ℕ). drop i (a ++ (ys ++ drop (q * w + w) xs))) s
          ∙ sym (drop-drop (r * w - (q * w + w)) (q * w + w) (a ++ (ys ++ drop (q * w + w) xs)))
          ∙ ap (λ (l : List A). drop (r * w - (q * w + w)) (drop (q * w + w) l)) (sym (append_assoc a ys (drop (q * w + w) xs)))
          ∙ ap (drop (r * w - (q * w + w))) (drop_at (a ++ ys) (drop (q * w + w) xs) (q * w + w) two)
          ∙ drop-drop (r * w - (q * w + w)) (q * w + w) xs
          ∙ ap (λ (i : ℕ). drop i xs) (sym s))

-- ---- the live part

pub live-marked : (es : List Neighbor) → live (mark_next es) ≡ []
unfolding live mark_next
live-marked [] = refl
live-marked (e ∷ es) = rw (is_empty_lem e.node.0)

pub live_empty : (n m : ℕ) → live (replicate m (empty_slot n)) ≡ []
unfolding live
live_empty n zero = refl
live_empty n (suc m) = rw (is_empty_lem n)

-- what is not live adds nothing
pub live-append : (xs ys : List Neighbor) → live ys ≡ [] → live (xs ++ ys) ≡ live xs
unfolding live
live-append [] ys h = h
live-append (x ∷ xs) ys h = ap (λ (l : List Neighbor). cond (is_empty x) [] (x ∷ l)) (live-append xs ys h)

-- it is the front of the row
pub live-front : (es : List Neighbor) → live es ≡ take (length (live es)) es
unfolding live
live-front [] = refl
live-front (e ∷ es) = go (is_empty e) (live-front es)
  where
    go : (b : Bool) → live es ≡ take (length (live es)) es → cond b [] (e ∷ live es) ≡ take (length (cond b [] (e ∷ live es))) (e ∷ es)
    go true h = refl
    go false h = ap (λ (l : List Neighbor). e ∷ l) h
