-- A slice written a block at a time, from the front on. Assumes nothing.
use mathlib.Core.Path.{◌≡◌, sym, ap, ◌∙◌}
use mathlib.Core.List.{List, ◌++◌}
use Prim.Native.Nat.{ℕ, ◌+◌, ◌*◌, ◌≤◌}
use native.Mathlib.Nat.{suc-mul, zero-mul}
use native.Mathlib.Numerals.{add-one}
use native.Mathlib.Omega.{arith}
use borrow.Rule.Slice.PartMut.{put_mid}
use lib.ListN.{length, take, drop}
use lib.Seq.{take_all, take-add}
use Rattle.rules.specs.Loops.{part}
use Rattle.buffers.proofs.Places.{put-length, put_front, put-area}

module _ {A : Type 0} where
  -- the first w blocks of v are those of the goal
  pub record Blocks (goal : List A) (v w : ℕ) (xs : List A) : Type 0 where
    pub long : length xs ≡ length goal
    pub front : take (w * v) xs ≡ take (w * v) goal

  pub blocks_none : (goal : List A) (v : ℕ) (xs : List A) → length xs ≡ length goal → Blocks goal v 0 xs
  blocks_none goal v xs h = record { long = h; front = (let z = zero-mul v in rw z) }

  module _ {goal : List A} {v w : ℕ} {xs : List A} (inv : Blocks goal v w xs) where
    pub blocks_turn : (m : ℕ) (ys : List A) → m ≡ v → w * v + v ≤ length goal → length ys ≡ v → ys ≡ part v w goal → Blocks goal v (w + 1) (put_mid (w * v) m xs ys)
    unfolding part
    blocks_turn m ys cut h long e =
        let l = inv.long in
        let s = suc-mul w v in
        let next : (w + 1) * v ≡ w * v + v = ap (λ (i : ℕ). i * v) (add-one w) ∙ s in
        let p = put_mid (w * v) v xs ys in
        let fits : w * v + v ≤ length xs = omega arith in
        rw cut
        (record {
          long = put-length (w * v) v xs ys fits long ∙ l;
          front =
              rw next
              (take-add (w * v) v p
              ∙ ap (λ (a : List A). a ++ take v (drop (w * v) p)) (put_front (w * v) v xs ys fits long (w * v) (omega arith) ∙ inv.front)
              ∙ ap (λ (a : List A). take (w * v) goal ++ a) (put-area (w * v) v xs ys fits long ∙ e)
              ∙ sym (take-add (w * v) v goal));
        })

    pub blocks_end : length goal ≤ w * v → xs ≡ goal
    blocks_end h =
        let l = inv.long in
        sym (take_all (w * v) xs (omega arith)) ∙ inv.front ∙ take_all (w * v) goal h
