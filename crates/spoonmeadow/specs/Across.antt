-- What each call over the C boundary leaves is what the rulebook says of what it was lent. Assumes nothing.
use Rattle.std.specs.Prelude.{◌≡◌, List, ℕ, Float}
use Rattle.rules.specs.BuildCall.{BuildLent, BuildOutcome, build_rule}
use Rattle.rules.specs.SearchCall.{SearchLent, SearchOutcome, search_rule}
use Rattle.rules.specs.DescentCall.{DescentLent, IterateOutcome, begin_rule, iterate_rule}
use Rattle.rules.specs.RelayCall.{OpenLent, OpenOutcome, open_rule, MoveLent, MoveOutcome, move_rule, CloseLent, CloseOutcome, close_rule}
use Rattle.descent.specs.Descent.{left}
use Rattle.answers.specs.declared.Said.{Said}
use Rattle.answers.specs.declared.Found.{Found}
use Rattle.answers.specs.declared.Iterated.{Iterated}
use Rattle.answers.specs.Answers.{code_in, found_in, iterated_in}

abbrev pub build_left : Said → List ℕ → List ℕ → List Float → BuildOutcome
build_left s graph su sf = record { said = code_in s; graph = graph; scratch_u = su; scratch_f = sf }

pub record Built (l : BuildLent) (r : Said) (graph su : List ℕ) (sf : List Float) : Type 0 where
  pub whole : build_left r graph su sf ≡ build_rule l

abbrev pub found_left : Found → List ℕ → List ℕ → List ℕ → List Float → SearchOutcome
found_left f nodes bits su sf =
    record { said = found_in f; result_nodes = nodes; result_bits = bits; scratch_u = su; scratch_f = sf }

pub record Searched (l : SearchLent) (r : Found) (nodes bits su : List ℕ) (sf : List Float) : Type 0 where
  pub whole : found_left r nodes bits su sf ≡ search_rule l

pub record Begun (l : DescentLent) (r : Said) (us : List ℕ) (fs : List Float) (su : List ℕ) (sf : List Float) : Type 0 where
  pub whole : record { said = code_in r; left = left us fs su sf } ≡ begin_rule l

abbrev pub iterate_left : Iterated → List ℕ → List Float → List ℕ → List Float → IterateOutcome
iterate_left i us fs su sf = record { said = iterated_in i; left = left us fs su sf }

pub record IteratedOnce (l : DescentLent) (r : Iterated) (us : List ℕ) (fs : List Float) (su : List ℕ) (sf : List Float) : Type 0 where
  pub whole : iterate_left r us fs su sf ≡ iterate_rule l

abbrev pub open_left : Said → List ℕ → List Float → List ℕ → List Float → OpenOutcome
open_left s us fs su sf = record { said = code_in s; state_u = us; state_f = fs; scratch_u = su; scratch_f = sf }

pub record Opened (l : OpenLent) (r : Said) (us : List ℕ) (fs : List Float) (su : List ℕ) (sf : List Float) : Type 0 where
  pub whole : open_left r us fs su sf ≡ open_rule l

abbrev pub move_left : Said → List ℕ → List Float → MoveOutcome
move_left s us fs = record { said = code_in s; state_u = us; state_f = fs }

pub record Moved (l : MoveLent) (r : Said) (us : List ℕ) (fs : List Float) : Type 0 where
  pub whole : move_left r us fs ≡ move_rule l

abbrev pub close_left : Said → List ℕ → List Float → List ℕ → CloseOutcome
close_left s nodes distances reports = record { said = code_in s; nodes = nodes; distances = distances; reports = reports }

pub record Closed (l : CloseLent) (r : Said) (nodes : List ℕ) (distances : List Float) (reports : List ℕ) : Type 0 where
  pub whole : close_left r nodes distances reports ≡ close_rule l
