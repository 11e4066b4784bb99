-- Areas of a slice, when one is lent and comes back, and when one place is written. Assumes nothing.
use mathlib.Core.Path.{◌≡◌, sym, ap, ◌∙◌}
use mathlib.Core.List.{List, ◌++◌, append_assoc}
use Prim.Native.Nat.{ℕ, ◌+◌, ◌-◌, ◌≤◌, ◌<◌}
use native.Mathlib.Omega.{arith}
use lib.ListN.{length, take, drop, set, length-append, length-drop}
use lib.Seq.{length-take-le, take-take, take-add, drop-drop, take-append-le, take_at, drop_at, drop-append-add, take-set-le, drop-set-lt, take-set-lt, drop-set-add}
use borrow.Rule.Slice.PartMut.{put_mid, same_len_mid}
use Rattle.buffers.specs.Area.{area}

module _ {A : Type 0} where
  pub length-area : (a w : ℕ) (xs : List A) → a + w ≤ length xs → length (area a w xs) ≡ w
  length-area a w xs h = length-take-le w (drop a xs) (simp length-drop (omega arith))

  -- an area, cut out the other way round
  area_cut : (a w : ℕ) (xs : List A) → a ≤ length xs → drop a (take (a + w) xs) ≡ area a w xs
  area_cut a w xs h = ap (drop a) (take-add a w xs) ∙ drop_at (take a xs) (area a w xs) a (length-take-le a xs h)

  -- the part is lent from a on, w places, and comes back as ys
  module _ (a w : ℕ) (xs ys : List A) (fits : a + w ≤ length xs) (long : length ys ≡ w) where
    pub put-length : length (put_mid a w xs ys) ≡ length xs
    put-length = same_len_mid a w xs ys (long ∙ sym (length-area a w xs fits))

    pub put-area : area a w (put_mid a w xs ys) ≡ ys
    put-area =
        ap (take w) (drop_at (take a xs) (ys ++ drop w (drop a xs)) a (length-take-le a xs (omega arith)))
        ∙ take_at ys (drop w (drop a xs)) w long

    -- what lies before it
    pub put_front : (i : ℕ) → i ≤ a → take i (put_mid a w xs ys) ≡ take i xs
    put_front i h =
        let e = length-take-le a xs (omega arith) in
        take-append-le i (take a xs) (ys ++ drop w (drop a xs)) (omega arith) ∙ take-take i a xs h

    pub put_low : (i v : ℕ) → i + v ≤ a → area i v (put_mid a w xs ys) ≡ area i v xs
    put_low i v h =
        let e = put-length in
        sym (area_cut i v (put_mid a w xs ys) (omega arith)) ∙ ap (drop i) (put_front (i + v) h) ∙ area_cut i v xs (omega arith)

    -- what lies behind it
    pub put_high : (i v : ℕ) → a + w ≤ i → area i v (put_mid a w xs ys) ≡ area i v xs
    put_high i v h =
        let e = length-take-le a xs (omega arith) in
        let far : i ≡ length (take a xs ++ ys) + (i - (a + w)) = rw (length-append (take a xs) ys, e, long) (omega arith) in
        let near : w + (i - (a + w)) ≡ i - a = omega arith in
        let back : a + (i - a) ≡ i = omega arith in
        ap (take v)
        (ap (drop i) (sym (append_assoc (take a xs) ys (drop w (drop a xs))))
        ∙ ap (λ (j : ℕ). drop j ((take a xs ++ ys) ++ drop w (drop a xs))) far
        ∙ drop-append-add (take a xs ++ ys) (drop w (drop a xs)) (i - (a + w))
        ∙ drop-drop (i - (a + w)) w (drop a xs)
        ∙ ap (λ (j : ℕ). drop j (drop a xs)) near
        ∙ drop-drop (i - a) a xs
        ∙ ap (λ (j : ℕ). drop j xs) back)

  -- one place is written
  module _ (xs : List A) (j : ℕ) (x : A) where
    pub set-area : (a w i : ℕ) → j ≡ a + i → i < w → area a w (set xs j x) ≡ set (area a w xs) i x
    set-area a w i e h =
        ap (λ (k : ℕ). area a w (set xs k x)) e ∙ ap (take w) (drop-set-add a xs i x) ∙ take-set-lt w (drop a xs) i x h

    pub set-low : (a w : ℕ) → j < a → area a w (set xs j x) ≡ area a w xs
    set-low a w h = ap (take w) (drop-set-lt a xs j x h)

    pub set_high : (a w : ℕ) → a + w ≤ j → area a w (set xs j x) ≡ area a w xs
    set_high a w h =
        let e : a + (j - a) ≡ j = omega arith in
        ap (λ (k : ℕ). area a w (set xs k x)) (sym e) ∙ ap (take w) (drop-set-add a xs (j - a) x) ∙ take-set-le w (drop a xs) (j - a) x (omega arith)
