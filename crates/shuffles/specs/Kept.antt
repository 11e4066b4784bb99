-- A slice that holds one list, shuffled if longer than s, and the part of it that is kept. Assumes nothing.
use Rattle.std.specs.Prelude.{◌≡◌, List, ℕ, ◌≤◌, length, take, drop}
use Rattle.rules.specs.Descent.{kept_new, kept_back}

-- the places from r on
pub record KeptNew (draws : List ℕ) (s at : ℕ) (xs ys : List ℕ) (r : ℕ) : Type 0 where
  pub list : drop r ys ≡ kept_new draws s at xs
  pub long : length ys ≡ length xs
  pub from : r ≤ length xs

-- the first r places
pub record KeptBack (draws : List ℕ) (s at : ℕ) (xs ys : List ℕ) (r : ℕ) : Type 0 where
  pub list : take r ys ≡ kept_back draws s at xs
  pub long : length ys ≡ length xs
  pub to : r ≤ length xs
  pub few : r ≤ s
