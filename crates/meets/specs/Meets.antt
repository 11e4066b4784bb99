-- What a descent's state holds while pairs meet, and what one of them does to it. Assumes nothing.
use Rattle.std.specs.Prelude.{◌≡◌, cond, List, ℕ, ◌+◌, ◌*◌, ◌≤◌, eqb, length, drop, set, Float}
use Rattle.rules.specs.declared.Neighbor.{Neighbor}
use Rattle.rules.specs.Build.{Between}
use Rattle.rules.specs.Offers.{offer}
use Rattle.rules.specs.Calls.{descent_words}
use Rattle.rules.specs.Descent.{Met, list_at, pair, update}
use Rattle.rules.specs.Places.{lists_in}
use Rattle.visits.specs.Marks as visits

-- one offer: node u's list is another, and what lies behind the lists stays
pub record OfferedIn (n k u : ℕ) (e : Neighbor) (us : List ℕ) (fs : List Float) (us' : List ℕ) (fs' : List Float) : Type 0 where
  pub lists : lists_in n k us' fs' ≡ set (lists_in n k us fs) u (offer k e (list_at (lists_in n k us fs) u))
  pub rest : drop (n * k) us' ≡ drop (n * k) us
  pub words_long : length us' ≡ length us
  pub floats_long : length fs' ≡ length fs

-- one update
pub record Updated (d : Between) (n k u v : ℕ) (us : List ℕ) (fs : List Float) (us' : List ℕ) (fs' : List Float) (r : ℕ) : Type 0 where
  pub lists : lists_in n k us' fs' ≡ update d k (pair u v) (lists_in n k us fs)
  pub rest : drop (n * k) us' ≡ drop (n * k) us
  pub words_long : length us' ≡ length us
  pub floats_long : length fs' ≡ length fs
  pub counted : r ≡ cond (eqb u v) 0 1
  pub one : r ≤ 1

-- where the marks begin in the words of a state
abbrev pub marks_at : ℕ → ℕ → ℕ
marks_at n k = n * k + 260 * n

-- what the table leaves for a descent
pub record Game (dimension n k : ℕ) (lanes : List Float) (us : List ℕ) (fs : List Float) : Type 0 where
  pub lanes_long : length lanes ≡ n * dimension
  pub few : n ≤ 1024
  pub some : 1 ≤ k
  pub narrow : k ≤ 64
  pub words : length us ≡ descent_words n k
  pub floats : length fs ≡ n * k

-- the lists, the marks and the cost so far
pub record Holds (n k : ℕ) (m : Met) (us : List ℕ) (fs : List Float) (cost : ℕ) : Type 0 where
  pub lists : lists_in n k us fs ≡ m.lists
  pub marks : visits.Holds (marks_at n k) n m.visited us
  pub counted : cost ≡ m.cost

-- whatever the state held, it holds that changed by f, at a cost of at most b more
pub record Does (n k b : ℕ) (f : Met → Met) (us : List ℕ) (fs : List Float) (cost : ℕ) (us' : List ℕ) (fs' : List Float) (cost' : ℕ) : Type 0 where
  pub held : (m : Met) → Holds n k m us fs cost → Holds n k (f m) us' fs' cost'
  pub words_long : length us' ≡ length us
  pub floats_long : length fs' ≡ length fs
  pub most : cost' ≤ cost + b
