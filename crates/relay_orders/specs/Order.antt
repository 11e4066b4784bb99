-- Seeded numbers, and orders of a relay's moves: each job eight times. Assumes nothing.
use Rattle.std.specs.Prelude.{◌≡◌, ℕ, zero, suc, ◌+◌, ◌*◌, ◌/◌, ◌%◌, ◌^◌, ◌<◌, cond, List, [], ◌∷◌, length, ◌==◌, pos, nat_le, Float}
use Rattle.std.specs.Float.{binary32}
use Rattle.std.specs.Float.Ieee.{of_int}
use Rattle.rules.specs.Descent.{shuffle}

-- The remainder, and 0 where there are no jobs
unfoldable pub remainder : ℕ → ℕ → ℕ
remainder a count = cond (count == 0) 0 (a % count)

-- The job of a move by the moves in front of it and those behind it: one job at a time, a step of each in turn, and both from the last on
unfoldable pub job_of : ℕ → ℕ → ℕ → ℕ → ℕ
job_of kind up down count =
    cond (kind == 1) (remainder up count)
    (cond (kind == 2) (down / 8)
    (cond (kind == 3) (remainder down count) (up / 8)))

-- A number of jobs, and 0 where it is more than a relay may have
unfoldable pub small : ℕ → ℕ
small count = cond (nat_le count 64) count 0

-- One more and one less, modulo 2^32
abbrev pub next : ℕ → ℕ
next x = (x + 1) % 2 ^ 32

abbrev pub previous : ℕ → ℕ
previous x = (x + 0xFFFFFFFF) % 2 ^ 32

-- The next n moves, where `up` are in front of them, and `down` behind the last that was made
unfoldable pub ruled : ℕ → ℕ → ℕ → ℕ → ℕ → List ℕ
ruled kind count zero up down = []
ruled kind count (suc n) up down =
    job_of kind up (previous down) count ∷ ruled kind count n (next up) (previous down)

-- The next number of a seeded sequence
unfoldable pub after : ℕ → ℕ
after x = (x * 1664525 + 1013904223) % 2 ^ 32

-- What the n numbers after x give
unfoldable pub drawn : {A : Type 0} → (ℕ → A) → ℕ → ℕ → List A
drawn of zero x = []
drawn of (suc n) x = of (after x) ∷ drawn of n (after x)

-- The high half, below a limit
abbrev pub below : ℕ → ℕ → ℕ
below limit x = remainder (x / 65536) limit

-- A whole number from 0 to 7: the three highest bits
abbrev pub lane_from : ℕ → Float
lane_from x = of_int binary32 (pos (x / 536870912))

-- What is given for a number is what `made` says.
abbrev pub Gives : {A : Type 0} → (ℕ → A → Type 0) → (ℕ → A) → Type 0
Gives {A} Post made = (x : ℕ) (r : A) → x < 2 ^ 32 → Post x r → r ≡ made x

-- Shuffled by 512 draws, if it is no longer than that
unfoldable pub shuffled : ℕ → List ℕ → List ℕ
shuffled seed xs = cond (nat_le (length xs) 512) (shuffle (drawn (below 65536) 512 (after seed)) 0 xs) xs

-- n moves of some jobs by a kind, from kind 4 on shuffled
unfoldable pub order_of : ℕ → ℕ → ℕ → List ℕ
order_of kind count n =
    let jobs = small count in
    let moves = ruled kind jobs n 0 (8 * jobs) in
    cond (nat_le 4 kind) (shuffled kind moves) moves
