-- A fit distance has finite lanes only: no NaN and no infinity leaves a sum of squares again. Assumes nothing.
use mathlib.Core.Path.{◌≡◌}
use mathlib.Core.Bool.{true, false}
use mathlib.Core.List.{List, [], ◌∷◌}
use native.Mathlib.Omega.{arith}
use lib.Dec.{T}
use lib.ListN.{length}
use lib.Ieee.{Float, nan, inf, fin, Format, binary32, add, sub, neg, mul}
use lib.Ieee.Scale.{finite}
use Rattle.rules.specs.Distance.{lane, total_of, fit}
use Rattle.metrics.specs.Finite.{AllFinite}
use Rattle.metrics.proofs.Fitness.{fit_plain}

of_sum : (f : Format) (x y : Float) → T (finite (add f x y)) → T (finite x) × T (finite y)
unfolding add
of_sum f nan y h = absurd h
of_sum f (inf s) nan h = absurd h
of_sum f (inf true) (inf true) h = absurd h
of_sum f (inf true) (inf false) h = absurd h
of_sum f (inf false) (inf true) h = absurd h
of_sum f (inf false) (inf false) h = absurd h
of_sum f (inf s) (fin t n d) h = absurd h
of_sum f (fin s m e) nan h = absurd h
of_sum f (fin s m e) (inf t) h = absurd h
of_sum f (fin s m e) (fin t n d) h = (tt, tt)

of_square : (f : Format) (x : Float) → T (finite (mul f x x)) → T (finite x)
unfolding mul
of_square f nan h = absurd h
of_square f (inf s) h = absurd h
of_square f (fin s m e) h = tt

of_minus : (x : Float) → T (finite (neg x)) → T (finite x)
unfolding neg
of_minus nan h = absurd h
of_minus (inf s) h = absurd h
of_minus (fin s m e) h = tt

of_lane : (total a b : Float) → T (finite (lane total a b)) → T (finite total) × (T (finite a) × T (finite b))
unfolding lane sub
of_lane total a b h =
    let k = of_sum binary32 total _ h in
    let d = of_sum binary32 a (neg b) (of_square binary32 _ k.1) in
    (k.0, (d.0, of_minus b d.1))

pub of_total : (total : Float) (a b : List Float) → length a ≡ length b → T (finite (total_of total a b)) → T (finite total) × (AllFinite a × AllFinite b)
unfolding total_of AllFinite
of_total total [] [] e h = (h, (tt, tt))
of_total total [] (b ∷ y) e h = absurd (omega arith)
of_total total (a ∷ x) [] e h = absurd (omega arith)
of_total total (a ∷ x) (b ∷ y) e h =
    let k = of_total (lane total a b) x y (let s : length x ≡ length y = omega arith in s) h in
    let l = of_lane total a b k.0 in
    (l.0, ((l.1.0, k.1.0), (l.1.1, k.1.1)))

pub fit-finite : (x : Float) → fit x ≡ true → T (finite x)
fit-finite x h = let p = fit_plain x h in rw p.is tt
