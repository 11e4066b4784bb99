-- A node's lanes and a distance answer, each by the rulebook's definition. Assumes nothing.
use Rattle.std.specs.Prelude.{◌≡◌, ◌<◌, ◌≤◌, List, ℕ, length, Option, Some, None, Float}
use Rattle.rules.specs.declared.NodeId.{NodeId}
use Rattle.rules.specs.Answers.{Distance}
use Rattle.rules.specs.Distance.{distance_of, lanes_of, measure_of}

-- "lanes in one f32 slice": the part that a node has of it
pub record Lanes (lanes : List Float) (dimension node : ℕ) (part : List Float) : Type 0 where
  pub contents : part ≡ lanes_of lanes dimension node
  pub long : length part ≡ dimension

-- a distance answer, and 01's number and value of it
pub record Measured (a b : List Float) (r : Distance) : Type 0 where
  pub answer : r ≡ distance_of a b
  pub said : measure_of r ≡ measure_of (distance_of a b)

-- the node that a scan stops at, where it stops below n
abbrev pub FoundBelow : ℕ → ℕ → Option NodeId → Type 0
FoundBelow n at (Some j) = (j.0 ≡ at) × (at < n)
FoundBelow n at None = n ≤ at
