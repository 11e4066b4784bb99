-- A block of eight nodes: lane l of the t-th at place 8l + t. Its totals, and pairs that are fit. Assumes nothing.
use Rattle.std.specs.Prelude.{◌≡◌, Bool, cond, not, List, [], ◌∷◌, ℕ, ◌+◌, ◌-◌, ◌*◌, ◌<◌, ltb, length, get_or, Float}
use Rattle.std.specs.Float.{nan}
use Rattle.rules.specs.Answers.{Distance}
use Rattle.rules.specs.Loops.{each}
use Rattle.rules.specs.Distance.{lane, total_of, zero32, fit, unfit, lanes_of}
use Rattle.zeros.specs.Zeros.{all_below}

-- the first d lanes of the t-th
unfoldable pub column : ℕ → ℕ → List Float → List Float
column t d block = each (λ (l : ℕ). get_or block (l * 8 + t) nan ∷ []) d

-- node v, or the last of the n where there is none
unfoldable pub held : ℕ → ℕ → ℕ
held n v = cond (ltb v n) v (n - 1)

pub record Held (n v r : ℕ) : Type 0 where
  pub is : r ≡ held n v
  pub below : r < n

-- a node's lanes put into the t-th column
pub record PutRow (block x : List Float) (t : ℕ) (block' : List Float) : Type 0 where
  pub own : column t (length x) block' ≡ x
  pub other : (u : ℕ) → u < 8 → (u ≡ t → ⊥) → column u (length x) block' ≡ column u (length x) block

-- the first c columns hold the nodes from base on
abbrev pub Holds : List Float → ℕ → ℕ → ℕ → ℕ → List Float → Type 0
Holds lanes dimension n base c block = (t : ℕ) → t < c → column t dimension block ≡ lanes_of lanes dimension (held n (base + t))

-- one lane added to the first c totals
abbrev pub Laned : List Float → List Float → ℕ → Float → ℕ → List Float → Type 0
Laned totals block from x c r = (t : ℕ) → t < c → get_or r t nan ≡ lane (get_or totals t nan) x (get_or block (from + t) nan)

-- the totals of x and the eight
abbrev pub Totals : List Float → List Float → List Float → Type 0
Totals x block r = (t : ℕ) → t < 8 → get_or r t nan ≡ total_of zero32 x (column t (length x) block)

-- each of eight totals is fit
abbrev pub all_fit : List Float → Bool
all_fit totals = all_below (λ (t : ℕ). fit (get_or totals t nan)) 8

-- node j is fit with the eight from base on
unfoldable pub eight_fit : (ℕ → ℕ → Distance) → ℕ → ℕ → ℕ → Bool
eight_fit apart n base j = all_below (λ (t : ℕ). not (unfit (apart j (held n (base + t))))) 8

-- and so is each node from there on
unfoldable pub block_fit : (ℕ → ℕ → Distance) → ℕ → ℕ → Bool
block_fit apart n base = all_below (λ (i : ℕ). eight_fit apart n base (base + i)) (n - base)
