-- What renewing every context counts on, and what it leaves. Assumes nothing.
use Rattle.std.specs.Prelude.{◌≡◌, List, ℕ, ◌*◌, ◌≤◌, length, take, drop}
use Rattle.rules.specs.Descent.{Met, Renewed, renew_all, unvisit_all, renewed}
use Rattle.rules.specs.DescentPlaces.{context_words, pair_words}
use Rattle.buffers.specs.Area.{area}
use Rattle.visits.specs.Marks as visits
use Rattle.meets.specs.Meets.{marks_at}
use Rattle.renews.specs.Renews.{Source, RenewedIn}
use Rattle.descent_kept.proofs.Lists as kept

-- when all pairs have met: lists and flags that the state holds, the lists well formed
pub record Ready (n k : ℕ) (m : Met) (us : List ℕ) : Type 0 where
  pub source : Source n k m.visited m.lists us
  pub lists : kept.Lists n k m.lists

-- the state holds some such
pub record Held (n k : ℕ) (us : List ℕ) : Type 0 where
  pub met : Met
  pub ready : Ready n k met us

abbrev pub renewed_of : List ℕ → ℕ → ℕ → Met → Renewed
renewed_of draws n s m = renew_all draws n s m.visited m.lists

-- the new and the old list of each context, and the kept new pairs unvisited
pub record ListsRenewed (draws : List ℕ) (n k s : ℕ) (us us' ws ws' : List ℕ) (total at : ℕ) : Type 0 where
  pub contexts : (m : Met) → Ready n k m us → RenewedIn (renewed_of draws n s m) (area (n * k) (260 * n) us') total at n
  pub marks : (m : Met) → Ready n k m us → visits.Holds (marks_at n k) n (unvisit_all n (renewed_of draws n s m).news m.visited) us'
  pub front : take (n * k) us' ≡ take (n * k) us
  pub last : at ≤ n * k
  pub long : length us' ≡ length us
  pub scratch_long : length ws' ≡ length ws

-- all four lists of each context, the flags and the total of new
pub record StateRenewed (draws : List ℕ) (n k s : ℕ) (us us' ws ws' : List ℕ) (total : ℕ) : Type 0 where
  pub contexts : (m : Met) → Ready n k m us → area (n * k) (260 * n) us' ≡ context_words (renewed draws n s m).descent.contexts
  pub marks : (m : Met) → Ready n k m us → drop (marks_at n k) us' ≡ pair_words (visits.marks n) (renewed draws n s m).descent.visited
  pub totalled : (m : Met) → Ready n k m us → total ≡ (renewed draws n s m).new
  pub front : take (n * k) us' ≡ take (n * k) us
  pub long : length us' ≡ length us
  pub scratch_long : length ws' ≡ length ws
