-- Descents that their encoding has room for, and "well formed" of the descent that a state encodes. Assumes nothing.
use Rattle.std.specs.Prelude.{◌≡◌, List, ℕ, ◌*◌, ◌≤◌, ◌<◌, length}
use Rattle.rules.specs.Descent.{Context, Descent, list_at}
use Rattle.lists.specs.All.{All}
use Rattle.steps.proofs.Formed.{Kept}
use Rattle.encoded.specs.Words.{Rows}

-- "each of a node's four context lists at most 64 long": a fact of each of the four
pub record Each (P : List ℕ → Type 0) (c : Context) : Type 0 where
  pub new : P c.new
  pub old : P c.old
  pub reversed_new : P c.reversed_new
  pub reversed_old : P c.reversed_old

abbrev pub Few : List ℕ → Type 0
Few xs = length xs ≤ 64

pub record Fitting (n k : ℕ) (x : Descent) : Type 0 where
  pub nodes : length x.lists ≡ n
  pub rows : Rows k x.lists
  pub contexts : length x.contexts ≡ n
  pub few : All (Each Few) x.contexts
  pub pairs : length x.visited ≡ n * n

-- "with nodes below n"
abbrev pub Below : ℕ → List ℕ → Type 0
Below n xs = All (λ (v : ℕ). v < n) xs

-- "ascending, no node above n, node n exactly with that distance, all other distances fit; each of a node's four context lists at most 64 long with nodes below n"
pub record Formed (n k : ℕ) (x : Descent) : Type 0 where
  pub fitting : Fitting n k x
  pub lists : (w : ℕ) → w < n → Kept n (list_at x.lists w)
  pub members : All (Each (Below n)) x.contexts
