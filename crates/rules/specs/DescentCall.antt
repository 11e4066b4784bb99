-- The whole outcome of begin and of one iteration. Assumes nothing.
use Rattle.std.specs.Prelude.{Ok, Err, List, ℕ, length, replicate, Float}
use Rattle.rules.specs.Answers.{IterateAnswer}
use Rattle.rules.specs.Distance.{nodes_apart, between, zero32}
use Rattle.rules.specs.Refusals.{Code, code_of, no_refusal, Row, Decision, passed, refused, decide}
use Rattle.rules.specs.Calls.{scratch, begin_rows, iterate_rows}
use Rattle.rules.specs.Descent as descent
use Rattle.rules.specs.Places.{list_floats}
use Rattle.rules.specs.DescentPlaces.{descent_state, descent_in, descent_formed}

pub record DescentLent : Type 0 where
  pub dimension : ℕ
  pub n : ℕ
  pub lanes : List Float
  pub k : ℕ
  pub s : ℕ
  pub draws : List ℕ
  pub state_u : List ℕ
  pub state_f : List Float
  pub scratch_u : List ℕ
  pub scratch_f : List Float

-- the lent buffers as they are left
pub record DescentLeft : Type 0 where
  pub state_u : List ℕ
  pub state_f : List Float
  pub scratch_u : List ℕ
  pub scratch_f : List Float

-- "A refusal .. changes no lent byte"
unfoldable pub descent_kept : DescentLent → DescentLeft
descent_kept l = record { state_u = l.state_u; state_f = l.state_f; scratch_u = l.scratch_u; scratch_f = l.scratch_f }

-- "scratch is all zero .. after success"
unfoldable pub descent_written : DescentLent → descent.Descent → DescentLeft
descent_written l x =
    record {
      state_u = descent_state l.n x;
      state_f = list_floats x.lists;
      scratch_u = replicate (length l.scratch_u) 0;
      scratch_f = replicate (length l.scratch_f) zero32;
    }

-- ---- begin

unfoldable pub begin_table : DescentLent → List Row
begin_table l =
    begin_rows l.dimension l.n (length l.lanes) l.k l.s (length l.state_u) (length l.state_f)
    (scratch (length l.scratch_u) (length l.scratch_f)) (nodes_apart l.lanes l.dimension) (length l.draws)

pub record BeginOutcome : Type 0 where
  pub said : Code
  pub left : DescentLeft

unfoldable pub begin_obeys : DescentLent → Decision → BeginOutcome
begin_obeys l passed = record { said = no_refusal; left = descent_written l (descent.begun l.draws l.n l.k l.s) }
begin_obeys l (refused c) = record { said = c; left = descent_kept l }

unfoldable pub begin_rule : DescentLent → BeginOutcome
begin_rule l = begin_obeys l (decide (begin_table l))

-- ---- iterate

unfoldable pub iterate_table : DescentLent → List Row
iterate_table l =
    iterate_rows l.dimension l.n (length l.lanes) l.k l.s (length l.state_u) (length l.state_f)
    (scratch (length l.scratch_u) (length l.scratch_f)) (nodes_apart l.lanes l.dimension) (length l.draws)
    (descent_formed l.n l.k l.state_u l.state_f)

-- the cost and the total of new; "A refusal has counts 0"
pub record IterateSaid : Type 0 where
  pub code : Code
  pub cost : ℕ
  pub new : ℕ

unfoldable pub iterate_said : IterateAnswer → IterateSaid
iterate_said (Ok c) = record { code = no_refusal; cost = c.cost; new = c.new }
iterate_said (Err r) = record { code = code_of r; cost = 0; new = 0 }

pub record IterateOutcome : Type 0 where
  pub said : IterateSaid
  pub left : DescentLeft

unfoldable pub iterate_ends : DescentLent → descent.Iterated → IterateOutcome
iterate_ends l x =
    record { said = record { code = no_refusal; cost = x.cost; new = x.new }; left = descent_written l x.descent }

unfoldable pub iterate_obeys : DescentLent → Decision → IterateOutcome
iterate_obeys l passed =
    iterate_ends l
    (descent.iterated (between l.lanes l.dimension) l.draws l.n l.k l.s
    (descent_in l.n l.k l.state_u l.state_f))
iterate_obeys l (refused c) = record { said = record { code = c; cost = 0; new = 0 }; left = descent_kept l }

unfoldable pub iterate_rule : DescentLent → IterateOutcome
iterate_rule l = iterate_obeys l (decide (iterate_table l))
