-- The kinds of answers: what is well done, or its refusal. Assumes nothing.
use Rattle.std.specs.Prelude.{Option, Result, Float}
use Rattle.rules.specs.declared.Refusal.{Refusal}
use Rattle.rules.specs.declared.SearchCounts.{SearchCounts}
use Rattle.rules.specs.declared.IterateCounts.{IterateCounts}

-- "The distance answer carries the f32 .., and says unfit otherwise"
abbrev pub Distance : Type 0
Distance = Option Float

-- the answer of build, begin, open, a move and a close
abbrev pub Answer : Type 0
Answer = Result (Unit {0}) Refusal

-- the answer of search: its counts
abbrev pub SearchAnswer : Type 0
SearchAnswer = Result SearchCounts Refusal

-- the answer of one iteration: its counts
abbrev pub IterateAnswer : Type 0
IterateAnswer = Result IterateCounts Refusal
