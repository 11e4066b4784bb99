-- The flags of pairs in the words of a slice from a place on, and what a change of one does. Assumes nothing.
use Rattle.std.specs.Prelude.{◌≡◌, Bool, List, ℕ, ◌+◌, ◌*◌, ◌/◌, ◌<◌, length, take, drop}
use Rattle.rules.specs.DescentPlaces.{pair_words}

-- how many words hold the bits of n times n pairs
abbrev pub marks : ℕ → ℕ
marks n = (n * n + 31) / 32

pub record Holds (base n : ℕ) (flags : List Bool) (us : List ℕ) : Type 0 where
  pub words : drop base us ≡ pair_words (marks n) flags
  pub long : length flags ≡ n * n

-- whatever flags the words held, they hold those changed by f; what lies before them stays
pub record Marked (base n : ℕ) (f : List Bool → List Bool) (us us' : List ℕ) : Type 0 where
  pub marked : (flags : List Bool) → Holds base n flags us → Holds base n (f flags) us'
  pub front : take base us' ≡ take base us
  pub long : length us' ≡ length us

-- the place of the bit of a pair
pub record PairAt (n i j r : ℕ) : Type 0 where
  pub place : r ≡ i * n + j
  pub inside : r < n * n
  pub word : r / 32 < marks n
