-- Step 1 for every node: the exact lists one behind the other, `init_k` places each. Assumes nothing.
use Rattle.std.specs.Prelude.{◌≡◌, List, ℕ, ◌+◌, ◌-◌, ◌*◌, ◌≤◌, ◌<◌, min, length, get_or, Float}
use Rattle.std.specs.Float.{nan}
use Rattle.rules.specs.Build.{Between, exact_list}
use Rattle.exact.specs.Exact.{HoldsRow}
use Rattle.hops.specs.Hops.{list_of}

-- each list has this many members
abbrev pub members : ℕ → ℕ → ℕ
members init_k n = min init_k (n - 1)

pub record Taught (d : Between) (n init_k : ℕ) (lists : List ℕ) (row : List Float) (lists' : List ℕ) (row' : List Float) : Type 0 where
  pub each : (q : ℕ) → q < n → list_of lists' init_k (members init_k n) q ≡ exact_list d n init_k q
  pub long : length lists' ≡ length lists
  pub row_long : length row' ≡ length row

-- the distances that a slice holds of the nodes from base on, eight to a node
abbrev pub eight_in : ℕ → List Float → Between
eight_in base rows q i = get_or rows (i * 8 + (q - base)) nan

-- a list can hold each of them
abbrev pub HoldsEight : ℕ → ℕ → List Float → Type 0
HoldsEight n base rows = (t : ℕ) → t < 8 → base + t < n → HoldsRow 8 t rows n

-- the lists from lo below hi written, those before lo as they were
pub record Ranged (d : Between) (n init_k lo hi : ℕ) (lists lists' : List ℕ) : Type 0 where
  pub each : (q : ℕ) → lo ≤ q → q < hi → list_of lists' init_k (members init_k n) q ≡ exact_list d n init_k q
  pub low : (q : ℕ) → q < lo → list_of lists' init_k (members init_k n) q ≡ list_of lists init_k (members init_k n) q
  pub long : length lists' ≡ length lists
