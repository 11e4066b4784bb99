-- Floats of bounded size: sums and products of small ones are small, so a distance of small lanes is fit. Assumes nothing.
use mathlib.Core.Path.{◌≡◌, refl, sym, ap, ◌∙◌, subst}
use mathlib.Core.Bool.{Bool, true, false, ◌&&◌, ◌||◌, beq, cond, true≢false}
use mathlib.Core.List.{List, [], ◌∷◌}
use Prim.Native.Nat.{ℕ, suc, ◌+◌, ◌-◌, ◌*◌, ◌/◌, ◌^◌, ◌≤◌, ◌<◌}
use native.Mathlib.Nat.{le_trans, le_of_eq, mul_comm, mul_assoc, mul_right_comm, mul-le-mul, mul-le-mul_right, le_of_mul-le-mul_right, mul-pos, mul-one, mul-mul-mul_comm, mul-lt-mul_of_pos_right, lt_of_le_of_lt, add-le-add, div-lt_iff_lt-mul, pow-suc, two-mul, le_refl}
use native.Mathlib.Omega.{arith}
use borrow.Author.Tests.{le-leb, leb-true, ltb-false, lt-ltb, eq-eqb}
use lib.Dec.{T, ltb, eqb, ltb→lt, eqb→eq}
use lib.IntN.{ℤ}
use lib.Pow.{pow-add, pow_pos, pow_mono, pow-lt}
use lib.ListN.{length, drop, get_or, length-take}
use lib.Ieee.{Float, nan, inf, fin, binary32, up, down, round, sum, add, sub, neg, mul, le, lt, eq, to_bits, of_bits}
use lib.Ieee as ieee
use lib.Ieee.Digits.{size-le}
use lib.Ieee.Fits.{down_pos, kept-lt}
use lib.Ieee.Exact.{HasValue, round_exact}
use lib.Ieee.Order.{round_mono}
use lib.Ieee.Scale.{finite, round_val, round_under, grid}
use Rattle.rules.specs.Distance.{lane, total_of, zero32, largest, fit, answer, distance_of, unfit, lanes_of, nodes_apart}
use Rattle.rules.specs.Loops.{part}
use Rattle.rules.specs.Refusals.{decide, passed, row10}
use Rattle.kernels.proofs.Pairs.{all-clear}
use Rattle.metrics.proofs.Symmetry.{size, size-round, spread, size-sum}
use Rattle.lists.specs.All.{All}
use Rattle.lists.proofs.Plain.{all_take, all_of}
use Rattle.encoded.proofs.Rows.{all_drop}
use Rattle.zeros.proofs.Laws as below
use Rattle.pairs.specs.Within.{within, all_within}

-- finite, and at most 2 ^ b in size
abbrev Within : ℕ → Float → Type 0
Within b nan = ⊥
Within b (inf s) = ⊥
Within b (fin s m e) = m * up e ≤ 2 ^ b * down e

-- a bounded size, and no minus
abbrev Small : ℕ → Float → Type 0
Small b nan = ⊥
Small b (inf s) = ⊥
Small b (fin s m e) = (s ≡ false) × (m * up e ≤ 2 ^ b * down e)

small-within : (b : ℕ) (x : Float) → Small b x → Within b x
small-within b nan h = h
small-within b (inf s) h = h
small-within b (fin s m e) h = h.1

within-size : (b : ℕ) (x : Float) → Within b (size x) → Within b x
within-size b nan h = h
within-size b (inf s) h = h
within-size b (fin s m e) h = h

small-more : (b c : ℕ) (x : Float) → b ≤ c → Small b x → Small c x
small-more b c nan l h = h
small-more b c (inf s) l h = h
small-more b c (fin s m e) l h = (h.0, le_trans h.1 (mul-le-mul_right (down e) (pow_mono l)))

-- ---- rounding

-- less or equal, by a test of equality on either side
le_by : (a b : ℕ) (q z : Bool) → (T q → a ≡ b) → T (ltb a b || (q && z)) → a ≤ b
le_by a b q z = go (ltb a b) q (ltb→lt a b)
  where
    go : (p q : Bool) → (T p → a < b) → (T q → a ≡ b) → T (p || (q && z)) → a ≤ b
    go true q l e t = let h = l tt in omega arith
    go false true l e t = let h = e tt in omega arith
    go false false l e t = absurd t

le-cross : (a b : ℕ) (z : Bool) → T (ltb a b || (eqb a b && z)) → a ≤ b
le-cross a b z h = le_by a b (eqb a b) z (eqb→eq a b) h

under : (b : ℕ) (x y : Float) (g c : ℕ) → HasValue x false g c → HasValue y false (2 ^ b) 1 → T (le x y) → Small b x
unfolding le lt eq
under b nan y g c p q h = absurd p
under b (inf s) y g c p q h = absurd p
under b (fin true m e) y g c p q h = absurd (true≢false p.0)
under b (fin false m e) nan g c p q h = absurd q
under b (fin false m e) (inf t) g c p q h = absurd q
under b (fin false m e) (fin true n d) g c p q h = absurd (true≢false q.0)
under b (fin false m e) (fin false n d) g c p q h =
    let l : m * up e * down d ≤ n * up d * down e = le-cross (m * up e * down d) (n * up d * down e) _ h in
    let v : n * up d * down e ≡ 2 ^ b * down e * down d = ap (λ (z : ℕ). z * down e) (sym (mul-one (n * up d)) ∙ q.1) ∙ mul_right_comm (2 ^ b) (down d) (down e) in
    (refl, le_of_mul-le-mul_right (le_trans l (le_of_eq v)) (down_pos d))

minus : Float → Bool
minus nan = false
minus (inf s) = s
minus (fin s m e) = s

finite_under : (b : ℕ) (x y : Float) → size x ≡ x → HasValue y false (2 ^ b) 1 → T (le x y) → T (finite x)
unfolding le lt eq minus
finite_under b nan y s q h = absurd h
finite_under b (inf true) y s q h = absurd (true≢false (sym (ap minus s)))
finite_under b (inf false) nan s q h = absurd q
finite_under b (inf false) (inf t) s q h = absurd q
finite_under b (inf false) (fin t n d) s q h = absurd h
finite_under b (fin t m e) y s q h = tt

one-times : (x : ℕ) → 1 * x ≡ x
one-times x = mul_comm 1 x ∙ mul-one x

small-round : (a c b : ℕ) → 0 < c → a ≤ 2 ^ b * c → b ≤ 126 → Small b (round binary32 false a c)
small-round a c b C h l =
    let y = round binary32 false (2 ^ b) 1 in
    let p = one-times (2 ^ (b + 149)) in
    let below : b + 149 < 277 = omega arith in
    let q : 0 < 24 = omega arith in
    let v : HasValue y false (2 ^ b) 1 =
    round_exact binary32 false (2 ^ b) 1 1 (b + 149) (pow_pos 0) (pow-lt q) (subst (λ (z : ℕ). z < 2 ^ 277) (sym p) (pow-lt below)) (sym (pow-add 2 b 149) ∙ sym (mul-one (1 * 2 ^ (b + 149)) ∙ p)) in
    let o : T (le (round binary32 false a c) y) = round_mono binary32 a c (2 ^ b) 1 C (pow_pos 0) (le_trans (le_of_eq (mul-one a)) h) in
    let f : T (finite (round binary32 false a c)) = finite_under b (round binary32 false a c) y (size-round binary32 false a c) v o in
    under b (round binary32 false a c) y (grid binary32 a c) (2 ^ 149) (round_val binary32 a c (round_under binary32 a c f)) v o

-- ---- sums, differences and squares

twice : (b c x y : ℕ) → x ≤ 2 ^ b * c → y ≤ 2 ^ b * c → x + y ≤ 2 ^ suc b * c
twice b c x y h g =
    let e : 2 ^ suc b * c ≡ 2 ^ b * c + 2 ^ b * c = ap (λ (z : ℕ). z * c) (pow-suc 2 b ∙ mul_comm (2 ^ b) 2) ∙ mul_assoc 2 (2 ^ b) c ∙ two-mul (2 ^ b * c) in
    le_trans (add-le-add h g) (le_of_eq (sym e))

-- a size as a fraction of two denominators
over : (b x e d : ℕ) → x ≤ 2 ^ b * e → x * d ≤ 2 ^ b * (e * d)
over b x e d h = le_trans (mul-le-mul_right d h) (le_of_eq (mul_assoc (2 ^ b) e d))

over' : (b x d e : ℕ) → x ≤ 2 ^ b * d → x * e ≤ 2 ^ b * (e * d)
over' b x d e h = le_trans (over b x d e h) (le_of_eq (ap (λ (z : ℕ). 2 ^ b * z) (mul_comm d e)))

spread_most : (s t : Bool) (a b : ℕ) → spread s t a b ≤ a + b
spread_most s t a b = go (beq s t)
  where
    go : (p : Bool) → cond p (a + b) (a - b + (b - a)) ≤ a + b
    go true = omega arith
    go false = omega arith

within-add : (b : ℕ) (x y : Float) → b < 126 → Within b x → Within b y → Within (suc b) (add binary32 x y)
unfolding add
within-add b nan y l h g = absurd h
within-add b (inf s) y l h g = absurd h
within-add b (fin s m e) nan l h g = absurd g
within-add b (fin s m e) (inf t) l h g = absurd g
within-add b (fin s m e) (fin t n d) l h g =
    let A = m * up e * down d in
    let B = n * up d * down e in
    let C = down e * down d in
    let most : spread s t A B ≤ 2 ^ suc b * C = le_trans (spread_most s t A B) (twice b C A B (over b (m * up e) (down e) (down d) h) (over' b (n * up d) (down d) (down e) g)) in
    within-size (suc b) (sum binary32 s A t B C) (subst (Within (suc b)) (sym (size-sum binary32 s t A B C)) (small-within (suc b) (round binary32 false (spread s t A B) C) (small-round (spread s t A B) C (suc b) (mul-pos (down_pos e) (down_pos d)) most l)))

within-neg : (b : ℕ) (x : Float) → Within b x → Within b (neg x)
unfolding neg
within-neg b nan h = h
within-neg b (inf s) h = h
within-neg b (fin s m e) h = h

within-sub : (b : ℕ) (x y : Float) → b < 126 → Within b x → Within b y → Within (suc b) (sub binary32 x y)
unfolding sub
within-sub b x y l h g = within-add b x (neg y) l h (within-neg b y g)

small-add : (b : ℕ) (x y : Float) → b < 126 → Small b x → Small b y → Small (suc b) (add binary32 x y)
unfolding add sum
small-add b nan y l h g = absurd h
small-add b (inf s) y l h g = absurd h
small-add b (fin s m e) nan l h g = absurd g
small-add b (fin s m e) (inf t) l h g = absurd g
small-add b (fin true m e) (fin t n d) l h g = absurd (true≢false h.0)
small-add b (fin false m e) (fin true n d) l h g = absurd (true≢false g.0)
small-add b (fin false m e) (fin false n d) l h g =
    let A = m * up e * down d in
    let B = n * up d * down e in
    let C = down e * down d in
    small-round (A + B) C (suc b) (mul-pos (down_pos e) (down_pos d)) (twice b C A B (over b (m * up e) (down e) (down d) h.1) (over' b (n * up d) (down d) (down e) g.1)) l

square-most : (b x e : ℕ) → x ≤ 2 ^ b * e → x * x ≤ 2 ^ (b + b) * (e * e)
square-most b x e h = le_trans (mul-le-mul h h) (le_of_eq (mul-mul-mul_comm (2 ^ b) e (2 ^ b) e ∙ ap (λ (z : ℕ). z * (e * e)) (sym (pow-add 2 b b))))

small-square : (b : ℕ) (x : Float) → b + b ≤ 126 → Within b x → Small (b + b) (mul binary32 x x)
unfolding mul
small-square b nan l h = absurd h
small-square b (inf s) l h = absurd h
small-square b (fin true m e) l h = small-round (m * up e * (m * up e)) (down e * down e) (b + b) (mul-pos (down_pos e) (down_pos e)) (square-most b (m * up e) (down e) h) l
small-square b (fin false m e) l h = small-round (m * up e * (m * up e)) (down e * down e) (b + b) (mul-pos (down_pos e) (down_pos e)) (square-most b (m * up e) (down e) h) l

-- ---- a distance: j lanes of small sizes add up to at most 2 ^ (62 + j)

small-lane : (j : ℕ) (total a b : Float) → j < 64 → Small (62 + j) total → Within 30 a → Within 30 b → Small (suc (62 + j)) (lane total a b)
unfolding lane
small-lane j total a b l h p q =
    let t = sub binary32 a b in
    small-add (62 + j) total (mul binary32 t t) (omega arith) h (small-more 62 (62 + j) (mul binary32 t t) (omega arith) (small-square 31 t (omega arith) (within-sub 30 a b (omega arith) p q)))

small-total : (j : ℕ) (total : Float) (a b : List Float) → j + length a ≤ 64 → Small (62 + j) total → All (Within 30) a → All (Within 30) b → Small 126 (total_of total a b)
unfolding total_of
small-total j total [] b l h p q = small-more (62 + j) 126 total (omega arith) h
small-total j total (a ∷ x) [] l h p q = small-more (62 + j) 126 total (omega arith) h
small-total j total (a ∷ x) (b ∷ y) l h p q =
    let e : suc (62 + j) ≡ 62 + suc j = omega arith in
    small-total (suc j) (lane total a b) x y (omega arith) (subst (λ (c : ℕ). Small c (lane total a b)) e (small-lane j total a b (omega arith) h p.0 q.0)) p.1 q.1

small-fit : (x : Float) → Small 126 x → fit x ≡ true
unfolding fit to_bits
small-fit nan h = absurd h
small-fit (inf s) h = absurd h
small-fit (fin true m e) h = absurd (true≢false h.0)
small-fit (fin false m e) h =
    let n = m * up e * 2 ^ 149 / down e in
    let k = ieee.size n - 24 in
    let lt : 126 + 149 < 276 = omega arith in
    let small : m * up e * 2 ^ 149 < 2 ^ 276 * down e =
    lt_of_le_of_lt (le_trans (mul-le-mul_right (2 ^ 149) h.1) (le_of_eq (mul_right_comm (2 ^ 126) (down e) (2 ^ 149) ∙ ap (λ (z : ℕ). z * down e) (sym (pow-add 2 126 149)))))
    (mul-lt-mul_of_pos_right (pow-lt lt) (down_pos e)) in
    let digits : ieee.size n ≤ 276 = size-le n 276 ((div-lt_iff_lt-mul (down_pos e)).1 small) in
    let kept : n / 2 ^ k < 2 ^ 24 = kept-lt 24 n in
    le-leb (0 + k * 2 ^ 23 + n / 2 ^ k) largest (omega arith)

start : Small 62 zero32
unfolding of_bits
start = (refl, omega arith)

module _ (lanes : List Float) (dimension : ℕ) (few : dimension ≤ 64) (small : All (Within 30) lanes) where
  lanes_small : (i : ℕ) → All (Within 30) (lanes_of lanes dimension i)
  unfolding lanes_of part
  lanes_small i = all_take (Within 30) dimension (drop (i * dimension) lanes) (all_drop (Within 30) (i * dimension) lanes small)

  lanes-few : (i : ℕ) → length (lanes_of lanes dimension i) ≤ 64
  unfolding lanes_of part
  lanes-few i = let e = length-take dimension (drop (i * dimension) lanes) in omega arith

  pub apart-fit : (i j : ℕ) → unfit (nodes_apart lanes dimension i j) ≡ false
  unfolding nodes_apart distance_of answer unfit
  apart-fit i j =
      let a = lanes_of lanes dimension i in
      let b = lanes_of lanes dimension j in
      rw (small-fit (total_of zero32 a b) (small-total 0 zero32 a b (let f = lanes-few i in omega arith) start (lanes_small i) (lanes_small j)))

-- ---- the tests

within-cross : (m : ℕ) (e : ℤ) → m * up e * 1 ≤ 1 * 2 ^ 30 * down e → m * up e ≤ 2 ^ 30 * down e
within-cross m e l = le_trans (le_of_eq (sym (mul-one (m * up e)))) (le_trans l (le_of_eq (ap (λ (z : ℕ). z * down e) (one-times (2 ^ 30)))))

abbrev limit : Float
limit = of_bits binary32 0x4E800000

by_tests : (x : Float) → le x (of_bits binary32 0x4E800000) ≡ true → le (neg (of_bits binary32 0x4E800000)) x ≡ true → Within 30 x
unfolding le lt eq neg of_bits
by_tests nan h g = absurd (true≢false (sym h))
by_tests (inf true) h g = absurd (true≢false (sym g))
by_tests (inf false) h g = absurd (true≢false (sym h))
by_tests (fin false m e) h g = within-cross m e (le-cross (m * up e * 1) (1 * 2 ^ 30 * down e) _ (subst T (sym h) tt))
by_tests (fin true m e) h g =
    within-cross m e
    (le_by (m * up e * 1) (1 * 2 ^ 30 * down e) (eqb (1 * 2 ^ 30 * down e) (m * up e * 1)) _ (λ t. sym (eqb→eq (1 * 2 ^ 30 * down e) (m * up e * 1) t)) (subst T (sym g) tt))

cross-within : (m : ℕ) (e : ℤ) → m * up e ≤ 2 ^ 30 * down e → m * up e * 1 ≤ 1 * 2 ^ 30 * down e
cross-within m e l = le_trans (le_of_eq (mul-one (m * up e))) (le_trans l (le_of_eq (ap (λ (z : ℕ). z * down e) (sym (one-times (2 ^ 30))))))

-- the other way round than `le-by`
by_le : (a b : ℕ) (q : Bool) → (a ≡ b → q ≡ true) → a ≤ b → (ltb a b || (q && true)) ≡ true
by_le a b q e l = go (ltb a b) refl
  where
    go : (p : Bool) → ltb a b ≡ p → (p || (q && true)) ≡ true
    go true h = refl
    go false h = let m = ltb-false a b h in let same : a ≡ b = omega arith in rw (e same)

-- the limit is more than 0
some-limit : (e : ℤ) (a : ℕ) (r : Bool) → 1 * 2 ^ 30 * down e ≤ a → (ltb 0 a || r) ≡ true
some-limit e a r l =
    let pos : 0 < 1 * 2 ^ 30 * down e = mul-pos (mul-pos (pow_pos 0) (pow_pos 30)) (down_pos e) in
    rw (lt-ltb 0 a (omega arith))

to-first : (x : Float) → Within 30 x → le x (of_bits binary32 0x4E800000) ≡ true
unfolding le lt eq of_bits
to-first nan h = absurd h
to-first (inf s) h = absurd h
to-first (fin false m e) h =
    let a = m * up e * 1 in
    let b = 1 * 2 ^ 30 * down e in
    by_le a b (eqb a b) (eq-eqb a b) (cross-within m e h)
to-first (fin true m e) h = some-limit e (m * up e * 1 + 1 * 2 ^ 30 * down e) _ (omega arith)

to-second : (x : Float) → Within 30 x → le (neg (of_bits binary32 0x4E800000)) x ≡ true
unfolding le lt eq neg of_bits
to-second nan h = absurd h
to-second (inf s) h = absurd h
to-second (fin false m e) h = some-limit e (1 * 2 ^ 30 * down e + m * up e * 1) _ (omega arith)
to-second (fin true m e) h =
    let a = m * up e * 1 in
    let b = 1 * 2 ^ 30 * down e in
    by_le a b (eqb b a) (λ (q : a ≡ b). eq-eqb b a (sym q)) (cross-within m e h)

of_within : (b : ℕ) (x : Float) → within b x ≡ true → Within b x
unfolding within
of_within b nan h = absurd (true≢false (sym h))
of_within b (inf s) h = absurd (true≢false (sym h))
of_within b (fin s m e) h = leb-true (m * up e) (2 ^ b * down e) h

is_within : (b : ℕ) (x : Float) → Within b x → within b x ≡ true
unfolding within
is_within b nan h = absurd h
is_within b (inf s) h = absurd h
is_within b (fin s m e) h = le-leb (m * up e) (2 ^ b * down e) h

module _ (x : Float) where
  pub both_tests : le x (of_bits binary32 0x4E800000) ≡ true → le (neg (of_bits binary32 0x4E800000)) x ≡ within 30 x
  both_tests h = go (le (neg limit) x) refl (within 30 x) refl
    where
      go : (a : Bool) → le (neg limit) x ≡ a → (b : Bool) → within 30 x ≡ b → a ≡ b
      go true g true w = refl
      go true g false w = sym (is_within 30 x (by_tests x h g)) ∙ w
      go false g true w = sym g ∙ to-second x (of_within 30 x w)
      go false g false w = refl

  pub first-test : le x (of_bits binary32 0x4E800000) ≡ false → false ≡ within 30 x
  first-test h = go (within 30 x) refl
    where
      go : (b : Bool) → within 30 x ≡ b → false ≡ b
      go true w = sym h ∙ to-first x (of_within 30 x w)
      go false w = refl

lanes-within : (lanes : List Float) → all_within 30 lanes ≡ true → All (Within 30) lanes
unfolding all_within
lanes-within lanes h =
    all_of (Within 30) lanes nan (λ (i : ℕ) (l : i < length lanes). of_within 30 (get_or lanes i nan) (below.all-at (λ (j : ℕ). within 30 (get_or lanes j nan)) (length lanes) i h l))

-- row 10 passes
pub none_unfit : (lanes : List Float) (dimension n : ℕ) → dimension ≤ 64 → all_within 30 lanes ≡ true → decide (row10 (nodes_apart lanes dimension) n ∷ []) ≡ passed
none_unfit lanes dimension n few small = all-clear (nodes_apart lanes dimension) n n (le_refl n) (λ i j _ _ _ _. apart-fit lanes dimension few (lanes-within lanes small) i j)
