-- The whole outcome of a build: its answer, and every lent buffer as it is left. Assumes nothing.
use Rattle.std.specs.Prelude.{List, [], ◌∷◌, ◌++◌, ℕ, length, replicate, Float}
use Rattle.rules.specs.Answers.{Answer}
use Rattle.rules.specs.Distance.{nodes_apart, between, zero32}
use Rattle.rules.specs.Refusals.{Code, no_refusal, said_of, Row, Decision, passed, refused, decide, row10}
use Rattle.rules.specs.Calls.{BuildSizes, scratch, build_rows}
use Rattle.rules.specs.Build.{graph_of}

pub record BuildLent : Type 0 where
  pub sizes : BuildSizes
  pub dimension : ℕ
  pub n : ℕ
  pub lanes : List Float
  pub graph : List ℕ
  pub scratch_u : List ℕ
  pub scratch_f : List Float

pub record BuildOutcome : Type 0 where
  pub said : Code
  pub graph : List ℕ
  pub scratch_u : List ℕ
  pub scratch_f : List Float

unfoldable pub build_table : BuildLent → List Row
build_table l =
    build_rows l.dimension l.n (length l.lanes) l.sizes (length l.graph)
    (scratch (length l.scratch_u) (length l.scratch_f))
    ++ (row10 (nodes_apart l.lanes l.dimension) l.n ∷ [])

-- "A refusal .. changes no lent byte"; "scratch is all zero .. after success"
unfoldable pub build_obeys : BuildLent → Decision → BuildOutcome
build_obeys l (refused c) = record { said = c; graph = l.graph; scratch_u = l.scratch_u; scratch_f = l.scratch_f }
build_obeys l passed =
    record {
      said = no_refusal;
      graph = graph_of (between l.lanes l.dimension) l.n l.sizes;
      scratch_u = replicate (length l.scratch_u) 0;
      scratch_f = replicate (length l.scratch_f) zero32;
    }

unfoldable pub build_rule : BuildLent → BuildOutcome
build_rule l = build_obeys l (decide (build_table l))

-- an answer with what was left, as an outcome
abbrev pub build_left : Answer → List ℕ → List ℕ → List Float → BuildOutcome
build_left a graph su sf = record { said = said_of a; graph = graph; scratch_u = su; scratch_f = sf }
