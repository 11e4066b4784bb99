-- What the entry `open` is lent, and what it leaves. Assumes nothing.
use Rattle.std.specs.Prelude.{◌≡◌, List, ℕ, Float}
use Rattle.rules.specs.Answers.{Answer}
use Rattle.rules.specs.Refusals.{said_of}
use Rattle.rules.specs.RelayCall.{OpenLent, OpenOutcome, open_rule}

abbrev pub lent : ℕ → ℕ → List Float → ℕ → List ℕ → List Float → List ℕ → List ℕ → List Float → List ℕ → List Float → OpenLent
lent dimension n lanes k nodes distances jobs us fs su sf =
    record {
      dimension = dimension;
      n = n;
      lanes = lanes;
      k = k;
      nodes = nodes;
      distances = distances;
      jobs = jobs;
      state_u = us;
      state_f = fs;
      scratch_u = su;
      scratch_f = sf;
    }

-- an answer with what was left, as an outcome
abbrev pub open_left : Answer → List ℕ → List Float → List ℕ → List Float → OpenOutcome
open_left a us fs su sf = record { said = said_of a; state_u = us; state_f = fs; scratch_u = su; scratch_f = sf }

-- what a call leaves is what the rulebook says of what it was lent
pub record Opened (l : OpenLent) (r : Answer) (us : List ℕ) (fs : List Float) (su : List ℕ) (sf : List Float) : Type 0 where
  pub whole : open_left r us fs su sf ≡ open_rule l
