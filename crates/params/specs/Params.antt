-- "The parameters are built as in `ssg_params.rs`": the defaults, and the parameters with one changed. Assumes nothing.
use Rattle.std.specs.Prelude.{ℕ, Float}
use Rattle.std.specs.Float.{binary32}
use Rattle.std.specs.Float.Ieee.{of_bits}
use Rattle.params.specs.declared.SsgParams.{SsgParams}
use Rattle.rules.specs.Calls.{BuildSizes}

abbrev pub params : Float → ℕ → ℕ → ℕ → SsgParams
params threshold init_k index_size neighbor_neighbor_size =
    record { threshold = threshold; init_k = init_k; index_size = index_size; neighbor_neighbor_size = neighbor_neighbor_size }

-- "Defaults there are 100; here 64, and 100 for `neighbor_neighbor_size`.", "The threshold .. is 0.5 by default."
abbrev pub defaults : SsgParams
defaults = params (of_bits binary32 0x3F000000) 64 64 100

-- "each setter takes the parameters and hands them back changed"
abbrev pub with_threshold : SsgParams → Float → SsgParams
with_threshold p new = params new p.init_k p.index_size p.neighbor_neighbor_size

abbrev pub with_init_k : SsgParams → ℕ → SsgParams
with_init_k p new = params p.threshold new p.index_size p.neighbor_neighbor_size

abbrev pub with_index_size : SsgParams → ℕ → SsgParams
with_index_size p new = params p.threshold p.init_k new p.neighbor_neighbor_size

abbrev pub with_neighbor_neighbor_size : SsgParams → ℕ → SsgParams
with_neighbor_neighbor_size p new = params p.threshold p.init_k p.index_size new

-- the parameters as build's rows read them
abbrev pub sizes_of : SsgParams → BuildSizes
sizes_of p = record { init_k = p.init_k; index_size = p.index_size; neighbor_neighbor_size = p.neighbor_neighbor_size; threshold = p.threshold }
