-- Loops and tests in general, that the rules are written with. Assumes nothing.
use Rattle.std.specs.Prelude.{Bool, false, cond, ◌||◌, List, [], ◌∷◌, ◌++◌, ℕ, zero, suc, ◌+◌, ◌*◌, eqb, take, drop}

-- s after the turns 0, 1, .., n - 1
unfoldable pub turns : {S : Type 0} → (ℕ → S → S) → ℕ → S → S
turns f zero s = s
turns f (suc i) s = f i (turns f i s)

-- s after a turn for each of a list, from its front on
unfoldable pub through : {A S : Type 0} → (A → S → S) → List A → S → S
through f [] s = s
through f (x ∷ xs) s = through f xs (f x s)

-- the numbers 0, 1, .., n - 1, each turned into a list, one list behind the other
unfoldable pub each : {A : Type 0} → (ℕ → List A) → ℕ → List A
each f zero = []
each f (suc i) = each f i ++ f i

-- the first of the places i, i + 1, .. of which the test holds, with t places to try; the place after them where there is none
unfoldable pub first_from : (ℕ → Bool) → ℕ → ℕ → ℕ
first_from p i zero = i
first_from p i (suc t) = cond (p i) i (first_from p (suc i) t)

unfoldable pub any_of : {A : Type 0} → (A → Bool) → List A → Bool
any_of p [] = false
any_of p (x ∷ xs) = p x || any_of p xs

unfoldable pub has : ℕ → List ℕ → Bool
has v [] = false
has v (x ∷ xs) = eqb v x || has v xs

-- the q-th part of a list whose parts are w long
unfoldable pub part : {A : Type 0} → ℕ → ℕ → List A → List A
part w q xs = take w (drop (q * w) xs)

-- the list with its q-th part replaced
unfoldable pub put_part : {A : Type 0} → ℕ → ℕ → List A → List A → List A
put_part w q ys xs = take (q * w) xs ++ (ys ++ drop (q * w + w) xs)

-- the first m of src, over dst
unfoldable pub over : {A : Type 0} → ℕ → List A → List A → List A
over m src dst = take m src ++ drop m dst
