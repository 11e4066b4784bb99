-- The order of two distances that a list can hold is the order of their bits as whole numbers. Assumes nothing.
use mathlib.Core.Path.{◌≡◌, refl, sym, ◌∙◌, ap, subst}
use mathlib.Core.Logic.{◌⊎◌, inl, inr}
use mathlib.Core.Bool.{Bool, true, false, cond, not, ◌&&◌}
use mathlib.Core.List.{List}
use Prim.Native.Nat.{ℕ, zero, suc, ◌+◌, ◌-◌, ◌*◌, ◌/◌, ◌%◌, ◌^◌, ◌<◌, ◌≤◌}
use native.Mathlib.Nat.{le_trans, le_of_eq, le_of_lt, lt_of_le_of_lt, lt_of_lt_of_le, lt_irrefl, eq-or-lt_of_le, mul_assoc, mul-one, zero-add, mul-le-mul_right, le_of_mul-le-mul_right, mul-div_cancel, div-one, le-div_iff_mul-le, suc-mul, zero-mul, zero-div, le_of_suc-le-suc, lt_of_not-le}
use native.Mathlib.Omega.{arith}
use borrow.Author.Tests.{lt-ltb, le-ltb, leb-true, eq-eqb, ne_eqb}
use lib.Dec.{T, ltb, leb, eqb, ltb→lt, nltb→le, leb→le}
use lib.IntN.{ℤ, pos, negsuc}
use lib.Pow.{pow-add, pow_pos, pow-lt}
use lib.Ieee.{Float, nan, inf, fin, Format, binary32, prec, emax, low, up, down, size, to_bits, of_bits, fits, lt, eq}
use lib.Ieee.Digits.{size-lt, size-le, size_reaches, back}
use lib.Ieee.Fits.{kept-lt, two, two-le_pos, and_l, and_r}
use lib.Ieee.Bits.{of_bits-to_bits, of_bits-fits}
use lib.Ieee.Order.{transfer}
use lib.Ieee.Nearest.{div_mono}
use lib.Ieee.Positive.{num, den, den_pos}
use Rattle.std.specs.Prelude.{Some, None}
use Rattle.rules.specs.Distance.{total_of, zero32, fit, answer, distance_of, carried, lanes_of, nodes_apart, between}
use Rattle.rules.specs.Rows.{empty_distance}
use Rattle.rules.proofs.Distances.{total-fits}
use Rattle.neighbor.specs.Holdable.{Holdable}

-- ---- the bits of a value that is not negative, from n, the value counted in units of the smallest: they rise with n

abbrev pattern : ℕ → ℕ → ℕ
pattern p n = (size n - p) * 2 ^ (p - 1) + n / 2 ^ (size n - p)

-- where digits are dropped the leading one is kept
kept_ge : (p n : ℕ) → 0 < p → 0 < size n - p → 2 ^ (p - 1) ≤ n / 2 ^ (size n - p)
kept_ge p n P K =
    let k = size n - p in
    let l : p - 1 + k < size n = omega arith in
    (le-div_iff_mul-le (pow_pos k)).1 (le_trans (le_of_eq (sym (pow-add 2 (p - 1) k))) (size_reaches n (p - 1 + k) l))

pattern_mono : (p a b : ℕ) → 0 < p → a ≤ b → pattern p a ≤ pattern p b
pattern_mono p a b P h =
    let j = size a - p in
    let k = size b - p in
    let s : size a ≤ size b = size-le a (size b) (lt_of_le_of_lt h (size-lt b)) in
    let l : j ≤ k = omega arith in
    elim (eq-or-lt_of_le l) [
      | inl e ↦
          let d : a / 2 ^ j ≤ b / 2 ^ j = div_mono a (2 ^ j) b (2 ^ j) (pow_pos j) (pow_pos j) (mul-le-mul_right (2 ^ j) h) in
          subst (λ (z : ℕ). j * 2 ^ (p - 1) + a / 2 ^ j ≤ z * 2 ^ (p - 1) + b / 2 ^ z) e (omega arith)
      | inr g ↦
          let x : a / 2 ^ j < 2 ^ p = kept-lt p a in
          let y : 2 ^ (p - 1) ≤ b / 2 ^ k = kept_ge p b P (omega arith) in
          let q : p ≡ p - 1 + 1 = omega arith in
          let z : 2 ^ p ≡ 2 ^ (p - 1) * 2 = ap (λ (r : ℕ). 2 ^ r) q ∙ pow-add 2 (p - 1) 1 in
          let w : suc j * 2 ^ (p - 1) ≤ k * 2 ^ (p - 1) = mul-le-mul_right (2 ^ (p - 1)) g in
          let v : suc j * 2 ^ (p - 1) ≡ j * 2 ^ (p - 1) + 2 ^ (p - 1) = suc-mul j (2 ^ (p - 1)) in
          omega arith
    ]

-- ---- a finite value that is not negative, counted in units of the smallest

abbrev pub plus : Float → Bool
plus nan = false
plus (inf s) = false
plus (fin true m e) = false
plus (fin false m e) = true

abbrev grain : Format → Float → ℕ
grain f x = num x * 2 ^ low f / den x

shift_exact : (l m : ℕ) (e : ℤ) → down e ≤ 2 ^ l → m * up e * 2 ^ l / down e * down e ≡ m * up e * 2 ^ l
shift_exact l m (pos a) h = mul-one _ ∙ div-one _
shift_exact l m (negsuc a) h =
    let g : suc a ≤ l = pow_le_back (suc a) l h in
    let e : m * 1 * 2 ^ l ≡ m * 1 * 2 ^ (l - suc a) * 2 ^ suc a =
    ap (λ (z : ℕ). m * 1 * z) (ap (λ (z : ℕ). 2 ^ z) (sym (back l (suc a) g)) ∙ pow-add 2 (l - suc a) (suc a)) ∙ sym (mul_assoc (m * 1) (2 ^ (l - suc a)) (2 ^ suc a)) in
    ap (λ (z : ℕ). z / 2 ^ suc a * 2 ^ suc a) e ∙ ap (λ (z : ℕ). z * 2 ^ suc a) (mul-div_cancel (m * 1 * 2 ^ (l - suc a)) (pow_pos (suc a))) ∙ sym e
  where
    pow_le_back : (a l : ℕ) → 2 ^ a ≤ 2 ^ l → a ≤ l
    pow_le_back a l h = le_of_suc-le-suc (lt_of_not-le (λ (g : suc l ≤ a). lt_irrefl (2 ^ l) (lt_of_lt_of_le (pow-lt g) h)))

-- the smallest value divides a value that fits
exact : (f : Format) (x : Float) → T (fits f x) → T (plus x) → num x * 2 ^ low f ≡ grain f x * den x
unfolding fits
exact f nan h p = absurd p
exact f (inf s) h p = absurd p
exact f (fin true m e) h p = absurd p
exact f (fin false zero e) h p = ap (λ (z : ℕ). z * 2 ^ low f) (zero-mul (up e)) ∙ zero-mul (2 ^ low f) ∙ sym (none (down e))
  where
    none : (d : ℕ) → zero * up e * 2 ^ low f / d * d ≡ 0
    none d = ap (λ (z : ℕ). z * 2 ^ low f / d * d) (zero-mul (up e)) ∙ ap (λ (z : ℕ). z / d * d) (zero-mul (2 ^ low f)) ∙ ap (λ (z : ℕ). z * d) (zero-div d) ∙ zero-mul d
exact f (fin false (suc m) e) h p =
    let A = eqb (suc m % 2) 1 in
    let B = ltb (suc m) (2 ^ prec f) in
    let C = leb (down e) (2 ^ low f) in
    let D = ltb (suc m * up e) (2 ^ suc (emax f) * down e) in
    sym (shift_exact (low f) (suc m) e (leb→le (down e) (2 ^ low f) (and_r (A && B) C (and_l (A && B && C) D h))))

bits_are : (f : Format) (x : Float) → T (plus x) → to_bits f x ≡ pattern (prec f) (grain f x)
unfolding to_bits
bits_are f nan p = absurd p
bits_are f (inf s) p = absurd p
bits_are f (fin true m e) p = absurd p
bits_are f (fin false m e) p = simp zero-add

-- ---- the tests on two such values are tests on products of their numerators and denominators

lt-is : (x y : Float) → T (plus x) → T (plus y) → lt x y ≡ ltb (num x * den y) (num y * den x)
unfolding lt
lt-is nan y p q = absurd p
lt-is (inf s) y p q = absurd p
lt-is (fin true m e) y p q = absurd p
lt-is (fin false m e) nan p q = absurd q
lt-is (fin false m e) (inf t) p q = absurd q
lt-is (fin false m e) (fin true n d) p q = absurd q
lt-is (fin false m e) (fin false n d) p q = refl

eq_is : (x y : Float) → T (plus x) → T (plus y) → eq x y ≡ eqb (num x * den y) (num y * den x)
unfolding eq
eq_is nan y p q = absurd p
eq_is (inf s) y p q = absurd p
eq_is (fin true m e) y p q = absurd p
eq_is (fin false m e) nan p q = absurd q
eq_is (fin false m e) (inf t) p q = absurd q
eq_is (fin false m e) (fin true n d) p q = absurd q
eq_is (fin false m e) (fin false n d) p q = and-true (eqb (m * up e * down d) (n * up d * down e))
  where
    and-true : (b : Bool) → (b && true) ≡ b
    and-true true = refl
    and-true false = refl

lt-or_ge : (a b : ℕ) → (a < b) ⊎ (b ≤ a)
lt-or_ge a b = go (ltb a b) (ltb→lt a b) (nltb→le a b)
  where
    go : (t : Bool) → (T t → a < b) → (T (not t) → b ≤ a) → (a < b) ⊎ (b ≤ a)
    go true h k = inl (h tt)
    go false h k = inr (k tt)

-- ---- a distance that a list can hold

-- it is no NaN, not infinite and not negative
pub holdable_plus : (x : Float) → Holdable x → T (plus x)
unfolding to_bits
holdable_plus nan h = absurd (omega arith)
holdable_plus (inf true) h = absurd (omega arith)
holdable_plus (inf false) h = absurd (omega arith)
holdable_plus (fin true m e) h = absurd (omega arith)
holdable_plus (fin false m e) h = tt

-- a fit distance, and the mark of an empty slot
pub holdable_fit : (x : Float) → T (fits binary32 x) → fit x ≡ true → Holdable x
unfolding fit
holdable_fit x f h = let l = leb-true (to_bits binary32 x) 0x7F7FFFFE h in record { held = f; low = omega arith }

pub holdable_empty : Holdable empty_distance
unfolding of_bits to_bits
holdable_empty = record { held = of_bits-fits binary32 0x7F7FFFFF; low = omega arith }

pub holdable_zero : Holdable zero32
unfolding of_bits to_bits
holdable_zero = record { held = of_bits-fits binary32 0; low = omega arith }

-- equal bits are one value: there is one NaN
pub bits-same : (x y : Float) → T (fits binary32 x) → T (fits binary32 y) → to_bits binary32 x ≡ to_bits binary32 y → x ≡ y
bits-same x y hx hy e = sym (of_bits-to_bits binary32 x hx) ∙ ap (of_bits binary32) e ∙ of_bits-to_bits binary32 y hy

module _ (x y : Float) (hx : Holdable x) (hy : Holdable y) where
  bits_mono : num x * den y ≤ num y * den x → to_bits binary32 x ≤ to_bits binary32 y
  bits_mono h =
      let f = binary32 in
      let px = holdable_plus x hx in
      let py = holdable_plus y hy in
      let g : grain f x * 2 ^ low f ≤ grain f y * 2 ^ low f = transfer (grain f x) (grain f y) (2 ^ low f) (2 ^ low f) (num x) (num y) (den x) (den y) (den_pos x) (den_pos y) (sym (exact f x hx.held px)) (sym (exact f y hy.held py)) h in
      rw (bits_are f x px, bits_are f y py) (pattern_mono (prec f) (grain f x) (grain f y) (two-le_pos (prec f) (two f)) (le_of_mul-le-mul_right g (pow_pos (low f))))

  bits_less : num x * den y < num y * den x → to_bits binary32 x < to_bits binary32 y
  bits_less h = elim (eq-or-lt_of_le (bits_mono (le_of_lt h))) [
    | inl e ↦ absurd (lt_irrefl (num y * den y) (subst (λ (z : Float). num z * den y < num y * den z) (bits-same x y hx.held hy.held e) h))
    | inr l ↦ l
  ]

-- "by distance" is by bits
pub bits-lt : (x y : Float) → Holdable x → Holdable y → lt x y ≡ ltb (to_bits binary32 x) (to_bits binary32 y)
bits-lt x y hx hy = lt-is x y (holdable_plus x hx) (holdable_plus y hy) ∙ go (lt-or_ge (num x * den y) (num y * den x))
  where
    go : (num x * den y < num y * den x) ⊎ (num y * den x ≤ num x * den y) → ltb (num x * den y) (num y * den x) ≡ ltb (to_bits binary32 x) (to_bits binary32 y)
    go (inl h) = rw (lt-ltb _ _ h, lt-ltb _ _ (bits_less x y hx hy h))
    go (inr h) = rw (le-ltb _ _ h, le-ltb _ _ (bits_mono y x hy hx h))

pub bits-eq : (x y : Float) → Holdable x → Holdable y → eq x y ≡ eqb (to_bits binary32 x) (to_bits binary32 y)
bits-eq x y hx hy = eq_is x y (holdable_plus x hx) (holdable_plus y hy) ∙ go (lt-or_ge a b) (lt-or_ge b a)
  where
    a : ℕ
    a = num x * den y

    b : ℕ
    b = num y * den x

    u : ℕ
    u = to_bits binary32 x

    v : ℕ
    v = to_bits binary32 y

    go : (a < b) ⊎ (b ≤ a) → (b < a) ⊎ (a ≤ b) → eqb a b ≡ eqb u v
    go (inl h) k =
        let l : u < v = bits_less x y hx hy h in
        rw (ne_eqb a b (λ (q : a ≡ b). omega arith), ne_eqb u v (λ (q : u ≡ v). omega arith))
    go (inr h) (inl k) =
        let l : v < u = bits_less y x hy hx k in
        rw (ne_eqb a b (λ (q : a ≡ b). omega arith), ne_eqb u v (λ (q : u ≡ v). omega arith))
    go (inr h) (inr k) =
        let l : u ≤ v = bits_mono x y hx hy k in
        let m : v ≤ u = bits_mono y x hy hx h in
        rw (eq-eqb a b (omega arith), eq-eqb u v (omega arith))

-- ---- the distances of 01

-- a distance that an answer carries can be held, and so can what stands for one that is unfit
pub holdable_carried : (a b : List Float) → Holdable (carried (distance_of a b))
unfolding carried distance_of answer
holdable_carried a b = go (fit t) refl
  where
    t : Float
    t = total_of zero32 a b

    go : (c : Bool) → fit t ≡ c → Holdable (carried (cond c (Some t) None))
    go true e = holdable_fit t (total-fits zero32 a b (of_bits-fits binary32 0)) e
    go false e = holdable_zero

pub holdable_distance : (a b : List Float) (x : Float) → distance_of a b ≡ Some x → Holdable x
unfolding carried
holdable_distance a b x e = subst Holdable (ap carried e) (holdable_carried a b)

-- build, descent and relay: of any two nodes
pub holdable_between : (lanes : List Float) (dimension i j : ℕ) → Holdable (between lanes dimension i j)
unfolding between nodes_apart
holdable_between lanes dimension i j = holdable_carried (lanes_of lanes dimension i) (lanes_of lanes dimension j)

-- nothing that can be held is farther than an empty slot
pub within_empty : (x : Float) → Holdable x → lt empty_distance x ≡ false
unfolding of_bits to_bits
within_empty x h = let low = h.low in bits-lt empty_distance x holdable_empty h ∙ le-ltb (to_bits binary32 empty_distance) (to_bits binary32 x) (omega arith)
