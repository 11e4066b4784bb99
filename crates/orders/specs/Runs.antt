-- A sequence of moves: a move of an absent or finished job leaves the relay as it is. Assumes nothing.
use Rattle.std.specs.Prelude.{Bool, ◌||◌, cond, List, [], ◌∷◌, ℕ, ◌+◌, eqb, leb, length}
use Rattle.rules.specs.Loops.{through}
use Rattle.rules.specs.Relay.{Job, Relay, steps_of, is_finished, job_at, moved}

-- "an absent or finished job"
abbrev pub idle : Relay → ℕ → Bool
idle r i = leb (length r.jobs) i || is_finished (job_at r i)

unfoldable pub moved_if : ℕ → Relay → ℕ → Relay
moved_if k r i = cond (idle r i) r (moved k r i)

unfoldable pub ran : ℕ → List ℕ → Relay → Relay
ran k is r = through (λ (i : ℕ) (x : Relay). moved_if k x i) is r

-- how often a sequence names job i
unfoldable pub count : ℕ → List ℕ → ℕ
count i [] = 0
count i (x ∷ xs) = cond (eqb x i) 1 0 + count i xs

abbrev pub steps_done : Job → ℕ
steps_done j = steps_of j.first + steps_of j.second
