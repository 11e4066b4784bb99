-- What is hoped of an exact list: nearest first when read backwards, no node twice, and truly the nearest. Assumes nothing.
use Rattle.std.specs.Prelude.{◌≡◌, true, false, List, map, reverse, ℕ, ◌-◌, ◌<◌, min, length}
use Rattle.rules.specs.declared.Neighbor.{Neighbor}
use Rattle.rules.specs.Loops.{has}
use Rattle.rules.specs.Distance.{before}
use Rattle.rules.specs.Build.{Between, entry, exact_list}
use Rattle.rules.specs.Offers.{ascending}
use Rattle.facts.specs.Different.{different}
use Rattle.facts.specs.Rising.{rising}

-- "written farthest first": the entries of q's exact list, read backwards
abbrev pub backwards : Between → ℕ → ℕ → ℕ → List Neighbor
backwards d n init_k q = map (entry d q) (reverse (exact_list d n init_k q))

-- "Exact list of each node: the least `init_k` of the others (all, if fewer), written farthest first."
pub record ExactFacts (d : Between) (n init_k q : ℕ) : Type 0 where
  pub ascends : ascending (backwards d n init_k q) ≡ true
  pub strictly : rising (backwards d n init_k q) ≡ true
  pub long : length (exact_list d n init_k q) ≡ min init_k (n - 1)
  pub once : different (exact_list d n init_k q) ≡ true
  pub others : has q (exact_list d n init_k q) ≡ false
  pub below : (i : ℕ) → has i (exact_list d n init_k q) ≡ true → i < n
  -- a node that is left out stands behind every one that is listed
  pub nearest : (i j : ℕ) → i < n → (i ≡ q → ⊥) → has i (exact_list d n init_k q) ≡ false → has j (exact_list d n init_k q) ≡ true
      → before (entry d q j) (entry d q i) ≡ true
