-- The places of a relay state, as docs/LAYOUT.md has them. Assumes nothing.
use Rattle.std.specs.Prelude.{ℕ, ◌+◌, ◌%◌, ◌^◌}
use Rattle.cases.specs.Text.{area_of}

-- Sums wrap, and a product of a length over 65,536 is 0: no state is as large.
abbrev pub sum : ℕ → ℕ → ℕ
sum a b = (a + b) % 2 ^ 64

-- "node w's entries from w times (k + 64) on"
unfoldable pub list_at : ℕ → ℕ → ℕ
list_at k node = area_of node (sum k 64)

-- "the length of each list", from n(k + 64) on
unfoldable pub length_at : ℕ → ℕ → ℕ → ℕ
length_at n k node = sum (area_of n (sum k 64)) node

-- "n(k + 65) + 1 + 15i": job i
unfoldable pub job_at : ℕ → ℕ → ℕ → ℕ
job_at n k job = sum (area_of n (sum k 65)) (sum 1 (area_of 15 job))

-- "n(k + 65) + 1,024 words and n(k + 64) + 64 floats"
unfoldable pub words_long : ℕ → ℕ → ℕ
words_long n k = sum (area_of n (sum k 65)) 1024

unfoldable pub floats_long : ℕ → ℕ → ℕ
floats_long n k = sum (area_of n (sum k 64)) 64
