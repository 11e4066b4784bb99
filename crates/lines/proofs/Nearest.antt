-- The value of a decimal is the binary32 number nearest to its digits over its scale: only the division rounds. Assumes nothing.
use Rattle.std.proofs.Common.{◌≡◌, ℕ, zero, suc, ◌+◌, ◌-◌, ◌*◌, ◌^◌, ◌<◌, ◌≤◌, Bool, true, false, cond, ◌&&◌, eqb, leb, List, [], ◌∷◌, get_or, drop, sym, ap, ◌∙◌, subst, true≢false, lt_irrefl, zero-lt-suc, mul_assoc, mul_comm, mul-pos, zero-mul, mul-one, arith, ne_eqb, leb-true}
use lib.Ieee.{Float, Format, nan, inf, fin, binary32, up, down, round, div, neg, of_int}
use lib.Ieee.Back.{round_whole}
use lib.Ieee.Exact.{HasValue}
use lib.Ieee.Fits.{up_pos, down_pos}
use lib.Ieee.Scale.{round_same}
use Rattle.rules.proofs.Tests as tests
use Rattle.lines.proofs.Choice.{either, both}
use Rattle.lines.specs.declared.Part.TheVariants.{OneWord, Blanks}
use Rattle.lines.specs.declared.Shape.{Shape}
use Rattle.lines.specs.declared.Shape.TheVariants.{OnePlace, TwoPlaces, ThreePlaces, Empty, Whole, Minus, Signed, Point, Bad}
use Rattle.lines.specs.declared.Word.{Word}
use Rattle.lines.specs.Words.{stops, end_from, most_digits, digits_with, empty_at, with_byte, word_of, word_at, is_nan, scale_of, value_of}

-- the quotient of two whole numbers
div-at : (f : Format) (x y : Float) (a b : ℕ) → 0 < b → HasValue x false a 1 → HasValue y false b 1 → div f x y ≡ round f false a b
unfolding div
div-at f nan y a b B v w = absurd v
div-at f (inf s) y a b B v w = absurd v
div-at f (fin s m e) nan a b B v w = absurd w
div-at f (fin s m e) (inf t) a b B v w = absurd w
div-at f (fin true m e) (fin t n d) a b B v w = absurd (true≢false v.0)
div-at f (fin false m e) (fin true n d) a b B v w = absurd (true≢false w.0)
div-at f (fin false m e) (fin false zero d) a b B v w =
    absurd (lt_irrefl 0 (subst (λ (x : ℕ). 0 < x) (sym w.1 ∙ ap (λ (x : ℕ). x * 1) (zero-mul (up d)) ∙ zero-mul 1) (mul-pos B (down_pos d))))
div-at f (fin false m e) (fin false (suc n) d) a b B v w =
    let x = m * up e in
    let y = suc n * up d in
    let x_is : x ≡ a * down e = sym (mul-one x) ∙ v.1 in
    let y_is : y ≡ b * down d = sym (mul-one y) ∙ w.1 in
    let some : eqb (suc n) 0 ≡ false = ne_eqb (suc n) 0 (λ z. omega (arith, z)) in
    ap (λ (t : Bool). cond t (cond (eqb m 0) nan (inf false)) (round f false (x * down d) (y * down e))) some
    ∙ round_same f false (x * down d) (y * down e) a b (mul-pos (mul-pos (zero-lt-suc n) (up_pos d)) (down_pos e)) B
    (ap (λ (z : ℕ). z * down d * b) x_is ∙ mul_assoc (a * down e) (down d) b ∙ mul_assoc a (down e) (down d * b)
    ∙ ap (λ (z : ℕ). a * z) (mul_comm (down e) (down d * b) ∙ ap (λ (z : ℕ). z * down e) (mul_comm (down d) b ∙ sym y_is)))

scale_is : (shape : Shape) → (0 < scale_of shape) × (scale_of shape ≤ 2 ^ 24)
unfolding scale_of
scale_is OnePlace = (omega arith, omega arith)
scale_is TwoPlaces = (omega arith, omega arith)
scale_is ThreePlaces = (omega arith, omega arith)
scale_is Empty = (omega arith, omega arith)
scale_is Whole = (omega arith, omega arith)
scale_is Minus = (omega arith, omega arith)
scale_is Signed = (omega arith, omega arith)
scale_is Point = (omega arith, omega arith)
scale_is Bad = (omega arith, omega arith)

digits_small : (digits b : ℕ) → digits ≤ 16000009 → digits_with digits b ≤ 16000009
unfolding digits_with
digits_small digits b h =
    either (λ (k : ℕ). k ≤ 16000009) (leb digits most_digits && (leb 48 b && leb b 57)) (digits * 10 + (b - 48)) digits
    (λ t.
    let u = tests.both (leb digits most_digits) (leb 48 b && leb b 57) t in
    let few = leb-true digits most_digits u.0 in
    let low = leb-true b 57 (tests.both (leb 48 b) (leb b 57) u.1).1 in
    omega (arith, few, low))
    (λ _. h)

word_small : (bs : List ℕ) (w : Word) → w.digits ≤ 16000009 → (word_of w bs).digits ≤ 16000009
unfolding word_of
word_small [] w h = h
word_small (b ∷ bs) w h =
    both (λ (v : Word). v.digits ≤ 16000009) (stops b OneWord) w (word_of (with_byte w b) bs) h (word_small bs (with_byte w b) (digits_small w.digits b h))

pub value_nearest :
    (text : List ℕ) (from : ℕ)
    → let w = word_at text from in
    let near = round binary32 false w.digits (scale_of w.shape) in
    value_of text w ≡ cond (is_nan text w) nan (cond (eqb (get_or text w.start 0) 45) (neg near) near)
unfolding word_at value_of of_int
value_nearest text from =
    let start = end_from Blanks text from in
    let w = word_of (empty_at start) (drop start text) in
    let small = word_small (drop start text) (empty_at start) (omega arith) in
    let scale = scale_is w.shape in
    ap (λ (x : Float). cond (is_nan text w) nan (cond (eqb (get_or text w.start 0) 45) (neg x) x))
    (div-at binary32 (round binary32 false w.digits 1) (round binary32 false (scale_of w.shape) 1) w.digits (scale_of w.shape) scale.0
    (round_whole binary32 false w.digits (omega (arith, small))) (round_whole binary32 false (scale_of w.shape) scale.1))
