-- The lists of all nodes in one slice, the flags of the taken, and what the functions of step 2 leave. Assumes nothing.
use Rattle.std.specs.Prelude.{◌≡◌, List, ℕ, ◌+◌, ◌*◌, ◌≤◌, ◌<◌, length, take, drop, replicate}
use Rattle.rules.specs.Loops.{through}
use Rattle.rules.specs.Search.{mark}
use Rattle.rules.specs.Build.{candidates}
use Rattle.lists.specs.All.{All}

-- the list of node v: the lists lie init-k places apart, each count long
unfoldable pub list_of : List ℕ → ℕ → ℕ → ℕ → List ℕ
list_of lists init_k count v = take count (drop (v * init_k) lists)

-- the lists of n nodes, their members below n
pub record Linked (lists : List ℕ) (init_k count n : ℕ) : Type 0 where
  pub room : n * init_k ≤ length lists
  pub fewer : count ≤ init_k
  pub below : (v : ℕ) → v < n → All (λ (i : ℕ). i < n) (list_of lists init_k count v)

-- a flag for each of n nodes, 1 where it is taken
unfoldable pub flags_of : ℕ → List ℕ → List ℕ
flags_of n taken = through mark taken (replicate n 0)

abbrev pub Flagged : List ℕ → List ℕ → Type 0
Flagged flags taken = flags ≡ flags_of (length flags) taken

-- the goal stands in the first r places of out, len of which were taken before, and is what is flagged
pub record Took (goal : List ℕ) (most : ℕ) (flags out : List ℕ) (len : ℕ) (flags' out' : List ℕ) (r : ℕ) : Type 0 where
  pub list : take r out' ≡ goal
  pub flagged : Flagged flags' goal
  pub more : len ≤ r
  pub within : r ≤ most
  pub rest : drop r out' ≡ drop r out
  pub flags_long : length flags' ≡ length flags
  pub out_long : length out' ≡ length out

-- the candidates of q in the first r places of out, and the flags as they were
pub record Candidates (lists : ℕ → List ℕ) (count limit q : ℕ) (flags out flags' out' : List ℕ) (r : ℕ) : Type 0 where
  pub list : take r out' ≡ candidates lists limit q
  pub exactly : r ≡ length (candidates lists limit q)
  pub within : r ≤ limit + count
  pub same : flags' ≡ flags
  pub rest : drop r out' ≡ drop r out
  pub long : length out' ≡ length out
