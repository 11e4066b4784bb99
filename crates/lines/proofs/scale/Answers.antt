-- `lines::scale` meets its contract: each literal is the whole number that it is. Assumes nothing.
use Rattle.std.proofs.Common.{◌≡◌, refl}
use Rattle.lines.specs.declared.Shape.{Shape}
use Rattle.lines.specs.declared.Shape.TheVariants.{Empty, Whole, Minus, Signed, Point, OnePlace, TwoPlaces, ThreePlaces, Bad}
use Rattle.lines.specs.Words.{scale_of}
use Rattle.lines.proofs.Laws.{one_is, ten_is, hundred_is, thousand_is}
use Rattle.lines.proofs.scale.Goals as goal

-- No digit stands behind a point.
no_places : (shape : Shape) → (shape ≡ OnePlace → ⊥) → (shape ≡ TwoPlaces → ⊥) → (shape ≡ ThreePlaces → ⊥) → scale_of shape ≡ 1
unfolding scale_of
no_places OnePlace a b c = absurd (a refl)
no_places TwoPlaces a b c = absurd (b refl)
no_places ThreePlaces a b c = absurd (c refl)
no_places Empty a b c = refl
no_places Whole a b c = refl
no_places Minus a b c = refl
no_places Signed a b c = refl
no_places Point a b c = refl
no_places Bad a b c = refl

pub returns-in-OnePlace : goal.returns-in-OnePlace
unfolding scale_of
returns-in-OnePlace c = rw c.in-OnePlace.is ten_is

pub returns-in-TwoPlaces : goal.returns-in-TwoPlaces
unfolding scale_of
returns-in-TwoPlaces c = rw c.in-TwoPlaces.is hundred_is

pub returns-in-ThreePlaces : goal.returns-in-ThreePlaces
unfolding scale_of
returns-in-ThreePlaces c = rw c.in-ThreePlaces.is thousand_is

pub returns-in_default : goal.returns-in_default
returns-in_default c = rw (no_places c.args.shape c.in_default.not-OnePlace c.in_default.not-TwoPlaces c.in_default.not-ThreePlaces) one_is
