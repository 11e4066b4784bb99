-- What holds of both of two choices holds of the one that is made. Assumes nothing.
use Rattle.std.proofs.Common.{◌≡◌, Bool, true, false, cond, refl}

module _ {A : Type 0} (P : A → Type 0) where
  pub either : (b : Bool) (x y : A) → (b ≡ true → P x) → (b ≡ false → P y) → P (cond b x y)
  either true x y f g = f refl
  either false x y f g = g refl

  pub both : (b : Bool) (x y : A) → P x → P y → P (cond b x y)
  both b x y p q = either b x y (λ _. p) (λ _. q)
