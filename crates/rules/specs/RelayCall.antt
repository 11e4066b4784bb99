-- The whole outcome of an opening, a move and a close. Assumes nothing.
use Rattle.std.specs.Prelude.{◌||◌, List, ℕ, leb, ltb, length, replicate, Float}
use Rattle.rules.specs.Loops.{over}
use Rattle.rules.specs.Distance.{nodes_apart, between, zero32}
use Rattle.rules.specs.Refusals.{Code, no_refusal, Row, Decision, passed, refused, decide}
use Rattle.rules.specs.Calls.{scratch, open_rows, move_rows, close_rows}
use Rattle.rules.specs.Offers.{lists_formed}
use Rattle.rules.specs.Relay.{Relay, opened, moved, is_finished, job_at, lowest_unfinished, reports_of}
use Rattle.rules.specs.Places.{lists_in, list_words, list_floats}
use Rattle.rules.specs.RelayPlaces.{relay_state, relay_state_floats, relay_in, relay_formed}

-- ---- open

pub record OpenLent : Type 0 where
  pub dimension : ℕ
  pub n : ℕ
  pub lanes : List Float
  pub k : ℕ
  pub nodes : List ℕ
  pub distances : List Float
  pub jobs : List ℕ
  pub state_u : List ℕ
  pub state_f : List Float
  pub scratch_u : List ℕ
  pub scratch_f : List Float

pub record OpenOutcome : Type 0 where
  pub said : Code
  pub state_u : List ℕ
  pub state_f : List Float
  pub scratch_u : List ℕ
  pub scratch_f : List Float

unfoldable pub open_table : OpenLent → List Row
open_table l =
    open_rows l.dimension l.n (length l.lanes) l.k (length l.nodes) (length l.distances) l.jobs (length l.jobs)
    (length l.state_u) (length l.state_f) (scratch (length l.scratch_u) (length l.scratch_f))
    (nodes_apart l.lanes l.dimension) (lists_formed l.n (lists_in l.n l.k l.nodes l.distances))

-- "A relay is opened on lists (nk u32, nk f32) and jobs (u, v)"
unfoldable pub opened_on : OpenLent → Relay
opened_on l = opened (between l.lanes l.dimension) (lists_in l.n l.k l.nodes l.distances) l.jobs

unfoldable pub open_obeys : OpenLent → Decision → OpenOutcome
open_obeys l passed =
    record {
      said = no_refusal;
      state_u = relay_state l.k (opened_on l);
      state_f = relay_state_floats l.k (opened_on l);
      scratch_u = replicate (length l.scratch_u) 0;
      scratch_f = replicate (length l.scratch_f) zero32;
    }
open_obeys l (refused c) =
    record { said = c; state_u = l.state_u; state_f = l.state_f; scratch_u = l.scratch_u; scratch_f = l.scratch_f }

unfoldable pub open_rule : OpenLent → OpenOutcome
open_rule l = open_obeys l (decide (open_table l))

-- ---- move

pub record MoveLent : Type 0 where
  pub n : ℕ
  pub k : ℕ
  pub job : ℕ
  pub state_u : List ℕ
  pub state_f : List Float

pub record MoveOutcome : Type 0 where
  pub said : Code
  pub state_u : List ℕ
  pub state_f : List Float

abbrev pub relay_of : MoveLent → Relay
relay_of l = relay_in l.n l.k l.state_u l.state_f

-- "a move for an absent or finished job"
unfoldable pub move_table : MoveLent → List Row
move_table l =
    move_rows l.n l.k (length l.state_u) (length l.state_f) (relay_formed l.n l.k l.state_u l.state_f)
    (leb (length (relay_of l).jobs) l.job || is_finished (job_at (relay_of l) l.job)) l.job

unfoldable pub move_obeys : MoveLent → Decision → MoveOutcome
move_obeys l passed =
    record {
      said = no_refusal;
      state_u = relay_state l.k (moved l.k (relay_of l) l.job);
      state_f = relay_state_floats l.k (moved l.k (relay_of l) l.job);
    }
move_obeys l (refused c) = record { said = c; state_u = l.state_u; state_f = l.state_f }

unfoldable pub move_rule : MoveLent → MoveOutcome
move_rule l = move_obeys l (decide (move_table l))

-- ---- close: "cuts nothing, writes the lists .., each job's two reports .. the rest unchanged, and leaves the state"

pub record CloseLent : Type 0 where
  pub n : ℕ
  pub k : ℕ
  pub state_u : List ℕ
  pub state_f : List Float
  pub nodes : List ℕ
  pub distances : List Float
  pub reports : List ℕ

pub record CloseOutcome : Type 0 where
  pub said : Code
  pub nodes : List ℕ
  pub distances : List Float
  pub reports : List ℕ

abbrev pub closing : CloseLent → Relay
closing l = relay_in l.n l.k l.state_u l.state_f

-- "a close with one unfinished": "the lowest unfinished"
unfoldable pub close_table : CloseLent → List Row
close_table l =
    close_rows l.n l.k (length l.state_u) (length l.state_f) (length l.nodes) (length l.distances) (length l.reports)
    (relay_formed l.n l.k l.state_u l.state_f) (ltb (lowest_unfinished (closing l)) (length (closing l).jobs))
    (lowest_unfinished (closing l))

unfoldable pub close_obeys : CloseLent → Decision → CloseOutcome
close_obeys l passed =
    record {
      said = no_refusal;
      nodes = list_words (closing l).lists;
      distances = list_floats (closing l).lists;
      reports = over (length (reports_of (closing l).jobs)) (reports_of (closing l).jobs) l.reports;
    }
close_obeys l (refused c) = record { said = c; nodes = l.nodes; distances = l.distances; reports = l.reports }

unfoldable pub close_rule : CloseLent → CloseOutcome
close_rule l = close_obeys l (decide (close_table l))
