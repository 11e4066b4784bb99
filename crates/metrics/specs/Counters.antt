-- The distances of a game's counters, and of a query and them. Assumes nothing.
use Rattle.std.specs.Prelude.{ℕ, Float}
use Rattle.rules.specs.Answers.{Distance}
use Rattle.rules.specs.Distance as distance
use Rattle.metrics.specs.declared.Counters.{Counters}
use Rattle.metrics.specs.declared.Asked.{Asked}

abbrev pub apart : Counters → ℕ → ℕ → Distance
apart c = distance.nodes_apart c.lanes.now c.dimension

abbrev pub between : Counters → ℕ → ℕ → Float
between c = distance.between c.lanes.now c.dimension

abbrev pub asked_apart : Asked → ℕ → Distance
asked_apart a = distance.query_apart a.counters.lanes.now a.counters.dimension a.query.now
