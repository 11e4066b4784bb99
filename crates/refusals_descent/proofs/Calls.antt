-- A call of `begin` or `iterate`, from what the entry's contract says. Assumes nothing.
use mathlib.Core.Path.{◌≡◌, sym, ap, ◌∙◌}
use mathlib.Core.Bool.{true, false}
use mathlib.Core.List.{List}
use Prim.Native.Nat.{ℕ}
use lib.Ieee.{Float}
use Rattle.std.specs.Prelude.{Ok, Err}
use Rattle.rules.specs.Answers.{Answer, IterateAnswer}
use Rattle.rules.specs.declared.Refusal.{Refusal}
use Rattle.rules.specs.Refusals.{said_of}
use Rattle.rules.specs.DescentCall.{IterateSaid, IterateOutcome, iterate_said}
use Rattle.refusals.specs.Junk.{rising, next_word, next_float, junk_word, junk_float}
use Rattle.descent.specs.Descent.{BegunAll, left}
use Rattle.iterate.specs.Iterate.{IteratedAll, iterate_left}
use Rattle.refusals_descent.specs.declared.call.Call.{Call}
use Rattle.refusals_descent.specs.Outcome.{uncounted, of_begin, lent_to, outcome_of, left_of}

pub counted-done : (a : Answer) → a ≡ (Ok tt) → iterate_said (Ok (record { cost = 0; new = 0 })) ≡ uncounted (said_of a)
unfolding iterate_said said_of
counted-done a e = ap (λ (b : Answer). uncounted (said_of b)) (sym e)

pub counted-refused : (a : Answer) (r : Refusal) → a ≡ Err r → iterate_said (Err r) ≡ uncounted (said_of a)
unfolding iterate_said said_of
counted-refused a r e = ap (λ (b : Answer). uncounted (said_of b)) (sym e)

module _ (c : Call) (lanes : List Float) (draws us : List ℕ) (fs : List Float) (su : List ℕ) (sf : List Float) (r : IterateAnswer) where
  module _ (us' : List ℕ) (fs' : List Float) (su' : List ℕ) (sf' : List Float) where
    pub begun_made :
        (a : Answer) → c.begins ≡ true → BegunAll (lent_to c lanes draws us fs su sf) a us' fs' su' sf' → iterate_said r ≡ uncounted (said_of a)
        → iterate_left r us' fs' su' sf' ≡ outcome_of c lanes draws us fs su sf
    unfolding outcome_of
    begun_made a begins m e =
        rw begins (ap (λ (s : IterateSaid). record { said = s; left = left us' fs' su' sf' }) e ∙ ap of_begin m.whole)

    pub iterated_made :
        c.begins ≡ false → IteratedAll (lent_to c lanes draws us fs su sf) r us' fs' su' sf'
        → iterate_left r us' fs' su' sf' ≡ outcome_of c lanes draws us fs su sf
    unfolding outcome_of
    iterated_made begins m = rw begins m.whole

    pub called_made :
        (m n : ℕ) → su ≡ rising next_word junk_word m → sf ≡ rising next_float junk_float n
        → iterate_left r us' fs' su' sf' ≡ outcome_of c lanes draws us fs su sf → left us' fs' su' sf' ≡ left_of c lanes draws us fs m n
    unfolding left_of
    called_made m n e f g =
        ap (λ (o : IterateOutcome). o.left) g ∙ ap (λ (x : List ℕ). (outcome_of c lanes draws us fs x sf).left) e
        ∙ ap (λ (x : List Float). (outcome_of c lanes draws us fs (rising next_word junk_word m) x).left) f
