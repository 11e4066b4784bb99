-- What the entries of a descent are lent, and what they leave. Assumes nothing.
use Rattle.std.specs.Prelude.{◌≡◌, List, ℕ, Float}
use Rattle.rules.specs.Answers.{Answer}
use Rattle.rules.specs.Refusals.{said_of}
use Rattle.rules.specs.DescentCall.{DescentLent, DescentLeft, begin_rule}

abbrev pub lent : ℕ → ℕ → List Float → ℕ → ℕ → List ℕ → List ℕ → List Float → List ℕ → List Float → DescentLent
lent dimension n lanes k s draws us fs su sf =
    record {
      dimension = dimension;
      n = n;
      lanes = lanes;
      k = k;
      s = s;
      draws = draws;
      state_u = us;
      state_f = fs;
      scratch_u = su;
      scratch_f = sf;
    }

abbrev pub left : List ℕ → List Float → List ℕ → List Float → DescentLeft
left us fs su sf = record { state_u = us; state_f = fs; scratch_u = su; scratch_f = sf }

-- what a begin leaves is what the rulebook says of what it was lent
pub record BegunAll (l : DescentLent) (r : Answer) (us : List ℕ) (fs : List Float) (su : List ℕ) (sf : List Float) : Type 0 where
  pub whole : record { said = said_of r; left = left us fs su sf } ≡ begin_rule l
