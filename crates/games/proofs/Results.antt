-- What holds of what is read, and of what is wrong. Assumes nothing.
use Rattle.std.proofs.Common.{Ok, Err, Result}
use Rattle.std.specs.Result.{IfOk, MatchResult}
use Rattle.games.specs.declared.Game.{Game}
use Rattle.games.specs.declared.Wrong.{Wrong}
use Rattle.games.specs.Games.{◌>>=◌, changed, on}

pub then-kept :
    (P Q : Game → Type 0) (R : Wrong → Type 0) (r : Result Game Wrong) (f : Game → Result Game Wrong)
    → MatchResult r P R → ((g : Game) → P g → MatchResult (f g) Q R) → MatchResult (r >>= f) Q R
then-kept P Q R (Ok g) f p q = q g p
then-kept P Q R (Err w) f p q = p

pub changed-kept :
    (P Q : Game → Type 0) (R S : Wrong → Type 0) (f : Game → Game) (r : Result Game Wrong)
    → MatchResult r P R → ((g : Game) → P g → Q (f g)) → ((w : Wrong) → R w → S (record { game = f w.game; fault = w.fault }))
    → MatchResult (changed f r) Q S
changed-kept P Q R S f (Ok g) p q s = q g p
changed-kept P Q R S f (Err w) p q s = s w p

pub on-kept : {A E B : Type 0} (S : B → Type 0) (r : Result A E) (f : A → B) (h : E → B) → ((x : A) → S (f x)) → ((e : E) → S (h e)) → S (on r f h)
on-kept S (Ok x) f h p q = p x
on-kept S (Err e) f h p q = q e

pub on-kept_both :
    {A E B : Type 0} (P : A → Type 0) (R : E → Type 0) (S : B → Type 0) (r : Result A E) (f : A → B) (h : E → B)
    → MatchResult r P R → ((x : A) → P x → S (f x)) → ((e : E) → R e → S (h e)) → S (on r f h)
on-kept_both P R S (Ok x) f h p q s = q x p
on-kept_both P R S (Err e) f h p q s = s e p

pub kept-with :
    {A E : Type 0} (P Q S : A → Type 0) (R T : E → Type 0) (r : Result A E)
    → MatchResult r P R → IfOk r Q → ((x : A) → P x → Q x → S x) → ((e : E) → R e → T e) → MatchResult r S T
kept-with P Q S R T (Ok x) p q f g = f x p q
kept-with P Q S R T (Err e) p q f g = g e p
