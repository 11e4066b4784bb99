-- What an iteration's work counts on, and what each part of it leaves. Assumes nothing.
use Rattle.std.specs.Prelude.{◌≡◌, true, List, ℕ, length, Float}
use Rattle.rules.specs.Build.{Between}
use Rattle.rules.specs.Descent.{Descent, Met, Iterated, meet_all, iterated}
use Rattle.rules.specs.Places.{list_floats}
use Rattle.rules.specs.DescentPlaces.{descent_in, descent_formed, descent_state}
use Rattle.bits.specs.Bits.{Words}
use Rattle.encoded.specs.Words.{Binary32}
use Rattle.meets.specs.Meets.{Holds}

-- a well-formed state, in slices of u32 and f32
pub record Fit (n k : ℕ) (us : List ℕ) (fs : List Float) : Type 0 where
  pub formed : descent_formed n k us fs ≡ true
  pub words : Words us
  pub floats : Binary32 fs

-- the descent's lists and marks, before any pair meets
abbrev pub unmet : Descent → Met
unmet x = record { lists = x.lists; visited = x.visited; cost = 0 }

-- and when all pairs have met
abbrev pub all_met : Between → ℕ → ℕ → List ℕ → List Float → Met
all_met d n k us fs = let x = descent_in n k us fs in meet_all d n k x.contexts (unmet x)

pub record MetIn (d : Between) (n k : ℕ) (us : List ℕ) (fs : List Float) (ws us' : List ℕ) (fs' : List Float) (ws' : List ℕ) (cost : ℕ) : Type 0 where
  pub held : Holds n k (all_met d n k us fs) us' fs' cost
  pub words_long : length us' ≡ length us
  pub floats_long : length fs' ≡ length fs
  pub scratch_long : length ws' ≡ length ws

-- what the rulebook has after one iteration on what a state encodes
abbrev pub iterated_of : Between → List ℕ → ℕ → ℕ → ℕ → List ℕ → List Float → Iterated
iterated_of d draws n k s us fs = iterated d draws n k s (descent_in n k us fs)

pub record IteratedIn (d : Between) (draws : List ℕ) (n k s : ℕ) (us : List ℕ) (fs : List Float) (ws us' : List ℕ) (fs' : List Float) (ws' : List ℕ) (cost new : ℕ) : Type 0 where
  pub words : us' ≡ descent_state n (iterated_of d draws n k s us fs).descent
  pub floats : fs' ≡ list_floats (iterated_of d draws n k s us fs).descent.lists
  pub counted : cost ≡ (iterated_of d draws n k s us fs).cost
  pub totalled : new ≡ (iterated_of d draws n k s us fs).new
  pub scratch_long : length ws' ≡ length ws
