-- The words that the laws of encodings are said in. Assumes nothing.
use Rattle.std.specs.Prelude.{◌≡◌, false, List, [], ◌∷◌, ◌++◌, ℕ, ◌+◌, ◌≤◌, T, length, Float}
use Rattle.std.specs.Float.{binary32}
use Rattle.std.specs.Float.Ieee.{fits}
use Rattle.rules.specs.Relay.{Job, Relay, fresh, is_popped}
use Rattle.lists.specs.All.{All}

module _ {A : Type 0} where
  -- rows one behind the other
  unfoldable pub joined : List (List A) → List A
  joined [] = []
  joined (r ∷ rs) = r ++ joined rs

  -- rows of w places each
  abbrev pub Rows : ℕ → List (List A) → Type 0
  Rows w rs = All (λ (r : List A). length r ≡ w) rs

  -- rows of at most w places each
  abbrev pub Short : ℕ → List (List A) → Type 0
  Short w rs = All (λ (r : List A). length r ≤ w) rs

-- each is a binary32 value, as what an f32 slice holds is
abbrev pub Binary32 : List Float → Type 0
Binary32 xs = All (λ (x : Float). T (fits binary32 x)) xs

-- the steps done of the two halves can be told from their sum: the second half has not begun before the first is done
abbrev pub Readable : Job → Type 0
Readable j = is_popped j.first ≡ false → j.second ≡ fresh

-- a relay that its encoding has room for
pub record Fitting (n k : ℕ) (r : Relay) : Type 0 where
  pub nodes : length r.lists ≡ n
  pub short : Short (k + 64) r.lists
  pub few : length r.jobs ≤ 64
  pub readable : All Readable r.jobs
