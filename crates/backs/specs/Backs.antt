-- Reversed lists: what they are made of, and where they are written. Assumes nothing.
use Rattle.std.specs.Prelude.{◌≡◌, List, ◌++◌, ℕ, ◌+◌, ◌*◌, ◌≤◌, ◌<◌, length, take, get_or, replicate}
use Rattle.rules.specs.Loops.{each}
use Rattle.rules.specs.Descent.{drawn_after, kept_back}
use Rattle.rules.specs.DescentPlaces.{member_words}
use Rattle.buffers.specs.Area.{area}

-- the lists at a place of each context are at most 64 long
abbrev pub Lengths : ℕ → ℕ → List ℕ → Type 0
Lengths n at us = (i : ℕ) → i < n → get_or us (260 * i + at) 0 ≤ 64

-- count times v from a place on
pub record FilledFrom (v count len : ℕ) (out out' : List ℕ) : Type 0 where
  pub list : take (len + count) out' ≡ take len out ++ replicate count v
  pub long : length out' ≡ length out

-- each node's number once per member of its list at a place of its context
unfoldable pub backs : ℕ → List ℕ → ℕ → List ℕ
backs at us n = each (λ (i : ℕ). replicate (get_or us (260 * i + at) 0) i) n

pub record GatheredBack (n at : ℕ) (us out out' : List ℕ) (r : ℕ) : Type 0 where
  pub list : take r out' ≡ backs at us n
  pub exactly : r ≡ length (backs at us n)
  pub most : r ≤ 64 * n
  pub long : length out' ≡ length out

-- the list at a place of every context; all other words stay
pub record PutBack (n at : ℕ) (src us us' : List ℕ) : Type 0 where
  pub list : (i : ℕ) → i < n → area (260 * i + at) 65 us' ≡ member_words src
  pub other : (i a w : ℕ) → a + w ≤ at → i < n → area (260 * i + a) w us' ≡ area (260 * i + a) w us
  pub behind : (i a w : ℕ) → at + 65 ≤ a → a + w ≤ 260 → i < n → area (260 * i + a) w us' ≡ area (260 * i + a) w us
  pub rest : (a w : ℕ) → 260 * n ≤ a → area a w us' ≡ area a w us
  pub long : length us' ≡ length us

-- the reversed list of the lists at one place, cut to s, at another place of every context
pub record Reversed (n s from to : ℕ) (draws : List ℕ) (at : ℕ) (us ws us' ws' : List ℕ) (r : ℕ) : Type 0 where
  pub put : PutBack n to (kept_back draws s at (backs from us n)) us us'
  pub next : r ≡ drawn_after s at (backs from us n)
  pub scratch_long : length ws' ≡ length ws
