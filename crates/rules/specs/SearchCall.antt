-- The whole outcome of a search: its answer with its counts, and every lent buffer as it is left. Assumes nothing.
use Rattle.std.specs.Prelude.{Ok, Err, List, ℕ, min, length, replicate, Float}
use Rattle.rules.specs.Answers.{SearchAnswer}
use Rattle.rules.specs.Loops.{over}
use Rattle.rules.specs.Distance.{query_apart, zero32}
use Rattle.rules.specs.Lists.{nodes_of, bits_of}
use Rattle.rules.specs.Refusals.{Code, code, code_of, no_refusal, Row, Decision, passed, refused, decide}
use Rattle.rules.specs.Calls.{scratch, search_rows}
use Rattle.rules.specs.Rows.{graph_row}
use Rattle.rules.specs.Search.{Walk, Going, on, unfit_at, search_of}

pub record SearchLent : Type 0 where
  pub dimension : ℕ
  pub n : ℕ
  pub lanes : List Float
  pub graph : List ℕ
  pub index_size : ℕ
  pub roots : List ℕ
  pub query : List Float
  pub k : ℕ
  pub result_nodes : List ℕ
  pub result_bits : List ℕ
  pub scratch_u : List ℕ
  pub scratch_f : List Float

-- "Answer: .. m; and the number of nodes taken from the queue." "A refusal has counts 0"
pub record SearchSaid : Type 0 where
  pub code : Code
  pub m : ℕ
  pub takings : ℕ

unfoldable pub search_said : SearchAnswer → SearchSaid
search_said (Ok c) = record { code = no_refusal; m = c.m; takings = c.takings }
search_said (Err r) = record { code = code_of r; m = 0; takings = 0 }

pub record SearchOutcome : Type 0 where
  pub said : SearchSaid
  pub result_nodes : List ℕ
  pub result_bits : List ℕ
  pub scratch_u : List ℕ
  pub scratch_f : List Float

unfoldable pub search_table : SearchLent → List Row
search_table l =
    search_rows l.dimension l.n (length l.lanes) (length l.graph) l.index_size l.roots (length l.query) l.k
    (length l.result_nodes) (length l.result_bits) (scratch (length l.scratch_u) (length l.scratch_f))

-- "scratch is all zero after search's 10 and after success"
unfoldable pub search_zeroed : SearchLent → SearchSaid → List ℕ → List ℕ → SearchOutcome
search_zeroed l said nodes bits =
    record {
      said = said;
      result_nodes = nodes;
      result_bits = bits;
      scratch_u = replicate (length l.scratch_u) 0;
      scratch_f = replicate (length l.scratch_f) zero32;
    }

-- "the best set, nearest first, in the first m = min(k, root count) places; further places unchanged"
unfoldable pub search_ends : SearchLent → Going Walk → SearchOutcome
search_ends l (on s) =
    let m = min l.k (length l.roots) in
    search_zeroed l (record { code = no_refusal; m = m; takings = s.takings })
    (over m (nodes_of s.best) l.result_nodes) (over m (bits_of s.best) l.result_bits)
search_ends l (unfit_at v) =
    search_zeroed l (record { code = code 10 v l.n; m = 0; takings = 0 }) l.result_nodes l.result_bits

unfoldable pub search_work : SearchLent → SearchOutcome
search_work l =
    search_ends l
    (search_of (query_apart l.lanes l.dimension l.query) (graph_row l.n l.index_size l.graph) l.n l.k l.roots)

-- "A refusal has counts 0 and changes no lent byte"
unfoldable pub search_obeys : SearchLent → Decision → SearchOutcome
search_obeys l passed = search_work l
search_obeys l (refused c) =
    record {
      said = record { code = c; m = 0; takings = 0 };
      result_nodes = l.result_nodes;
      result_bits = l.result_bits;
      scratch_u = l.scratch_u;
      scratch_f = l.scratch_f;
    }

unfoldable pub search_rule : SearchLent → SearchOutcome
search_rule l = search_obeys l (decide (search_table l))

-- an answer with what was left, as an outcome
abbrev pub search_left : SearchAnswer → List ℕ → List ℕ → List ℕ → List Float → SearchOutcome
search_left a nodes bits su sf =
    record { said = search_said a; result_nodes = nodes; result_bits = bits; scratch_u = su; scratch_f = sf }
