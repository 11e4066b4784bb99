-- The queue of a walk: every node that joined it was seen just before, so that it has room for all. Assumes nothing.
use Rattle.std.specs.Prelude.{Ok, Err, ◌≡◌, cond, List, [], ◌∷◌, ℕ, ◌+◌, ◌*◌, ◌≤◌, ◌<◌, eqb, take, length, Float}
use Rattle.rules.specs.Answers.{Distance}
use Rattle.rules.specs.Rows.{graph_row}
use Rattle.rules.specs.Search.{Walk, Going, on, unfit_at, expand}
use Rattle.expand.specs.Steps.{Counted}
use Rattle.expand.specs.Areas.{seen_in, queue_in, best_in, BestSound}

-- flags that are set
abbrev pub one : ℕ → ℕ
one x = cond (eqb x 1) 1 0

unfoldable pub ones : List ℕ → ℕ
ones [] = 0
ones (x ∷ xs) = one x + ones xs

unfoldable pub AllBelow : ℕ → List ℕ → Type 0
AllBelow n [] = Unit
AllBelow n (v ∷ vs) = (v < n) × AllBelow n vs

pub record QueueSound (n : ℕ) (us : List ℕ) (tail : ℕ) : Type 0 where
  pub few : tail ≤ ones (seen_in n us)
  pub below : AllBelow n (take tail (queue_in n us))

-- the walk that scratch holds
abbrev pub walk_in : ℕ → List ℕ → List Float → ℕ → ℕ → ℕ → ℕ → Walk
walk_in n us fs m tail takings worked =
    record { seen = seen_in n us; best = best_in n us fs m; queue = take tail (queue_in n us); takings = takings; worked = worked }

unfoldable pub walk_after : ℕ → List ℕ → List Float → ℕ → ℕ → ℕ → Counted → Going Walk
walk_after n us fs m takings worked (Ok tail) = on (walk_in n us fs m tail takings worked)
walk_after n us fs m takings worked (Err v) = unfit_at v.0

unfoldable pub SoundAfter : ℕ → List ℕ → Counted → Type 0
SoundAfter n us (Ok tail) = QueueSound n us tail
SoundAfter n us (Err v) = Unit

unfoldable pub BestAfter : ℕ → List ℕ → List Float → ℕ → Counted → Type 0
BestAfter n us fs m (Ok tail) = BestSound n us fs m
BestAfter n us fs m (Err v) = Unit

-- a graph of n rows
pub record Rows (n : ℕ) (graph : List ℕ) (index_size : ℕ) : Type 0 where
  pub long : length graph ≡ n * index_size
  pub narrow : index_size ≤ 64

pub record Expanded (apart : ℕ → Distance) (n : ℕ) (graph : List ℕ) (index_size m takings tail : ℕ) (us : List ℕ) (fs : List Float) (us' : List ℕ) (fs' : List Float) (r : Counted) : Type 0 where
  pub after : (worked : ℕ) → (worked' : ℕ) × (walk_after n us' fs' m (takings + 1) worked' r ≡ expand apart (graph_row n index_size graph) (walk_in n us fs m tail takings worked))
  pub sound : SoundAfter n us' r
  pub best : BestAfter n us' fs' m r
  pub words : length us' ≡ length us
  pub floats : length fs' ≡ length fs
