-- Two lists of one length in step. Assumes nothing.
use Rattle.std.proofs.Common.{◌≡◌, Bool, ◌&&◌, List, [], ◌∷◌, length, refl, ap, arith}
use Rattle.std.specs.List.{list_all, zip}
use Rattle.std.specs.Cmp.Lexicographic.{pointwise}

pub in_step : {A : Type 0} (same : A → A → Bool) (xs ys : List A) → length xs ≡ length ys → list_all (λ p. same p.0 p.1) (zip xs ys) ≡ pointwise same xs ys
in_step same [] [] h = refl
in_step same [] (y ∷ ys) h = absurd (let no : ⊥ = omega (arith, h) in no)
in_step same (x ∷ xs) [] h = absurd (let no : ⊥ = omega (arith, h) in no)
in_step same (x ∷ xs) (y ∷ ys) h = ap (λ (t : Bool). same x y && t) (in_step same xs ys (omega (arith, h)))
