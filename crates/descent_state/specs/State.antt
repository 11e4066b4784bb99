-- What is tested of a descent's state, part by part. Assumes nothing.
use Rattle.std.specs.Prelude.{◌≡◌, Bool, ◌&&◌, List, ℕ, ◌*◌, ◌≤◌, length, Float}
use Rattle.rules.specs.Calls.{descent_words}
use Rattle.rules.specs.Places.{same_words}
use Rattle.rules.specs.DescentPlaces.{member_words, members_in, members_formed}

-- what rows 2, 4 and 6 leave
pub record Sized (n k : ℕ) (us : List ℕ) (fs : List Float) : Type 0 where
  pub nodes : n ≤ 1024
  pub few : k ≤ 64
  pub words : length us ≡ descent_words n k
  pub floats : length fs ≡ n * k

-- 65 words are the encoding of a list of nodes below n
unfoldable pub member_test : ℕ → List ℕ → Bool
member_test n us = same_words us (member_words (members_in us)) && members_formed n (members_in us)
