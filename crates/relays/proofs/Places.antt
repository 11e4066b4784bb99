-- Up to 1,024 nodes, lists of 64 and 64 jobs no number wraps: the places are docs/LAYOUT.md's. Assumes nothing.
use Rattle.std.proofs.Common.{◌≡◌, ℕ, ◌+◌, ◌*◌, ◌<◌, ◌≤◌, ap, ◌∙◌, mod-eq_of_lt, mul-le-mul, arith}
use Rattle.cases.specs.Text.{area_of}
use Rattle.cases.proofs.Laws.{area-is}
use Rattle.relays.specs.Places.{sum, list_at, length_at, job_at, words_long, floats_long}

plain : (a b : ℕ) → a ≤ 4294967296 → b ≤ 4294967296 → sum a b ≡ a + b
plain a b h k =
    let small : a + b < 18446744073709551616 = omega arith in
    mod-eq_of_lt small

module _ (n k : ℕ) (nodes : n ≤ 1024) (wide : k ≤ 64) where
  -- n lists of k + x places
  rows : (x : ℕ) → x ≤ 65 → area_of n (sum k x) ≡ n * (k + x)
  rows x h =
      let whole : sum k x ≡ k + x = plain k x (omega arith) (omega arith) in
      ap (area_of n) whole ∙ area-is n (k + x) (omega arith) (omega arith)

  few : (x : ℕ) → x ≤ 65 → n * (k + x) ≤ 1024 * 129
  few x h = mul-le-mul nodes (let most : k + x ≤ 129 = omega arith in most)

  pub list-place : list_at k n ≡ n * (k + 64)
  unfolding list_at
  list-place = rows 64 (omega arith)

  pub length-place : (node : ℕ) → node ≤ 1024 → length_at n k node ≡ n * (k + 64) + node
  unfolding length_at
  length-place node h =
      let less = few 64 (omega arith) in
      ap (λ (m : ℕ). sum m node) (rows 64 (omega arith)) ∙ plain (n * (k + 64)) node (omega (arith, less)) (omega arith)

  pub job-place : (job : ℕ) → job ≤ 64 → job_at n k job ≡ n * (k + 65) + (1 + 15 * job)
  unfolding job_at
  job-place job h =
      let less = few 65 (omega arith) in
      let words : area_of 15 job ≡ 15 * job = area-is 15 job (omega arith) (omega arith) in
      let first : sum 1 (area_of 15 job) ≡ 1 + 15 * job = ap (sum 1) words ∙ plain 1 (15 * job) (omega arith) (omega arith) in
      ap (λ (m : ℕ). sum m (sum 1 (area_of 15 job))) (rows 65 (omega arith)) ∙ ap (sum (n * (k + 65))) first
      ∙ plain (n * (k + 65)) (1 + 15 * job) (omega (arith, less)) (omega arith)

  pub words-place : words_long n k ≡ n * (k + 65) + 1024
  unfolding words_long
  words-place =
      let less = few 65 (omega arith) in
      ap (λ (m : ℕ). sum m 1024) (rows 65 (omega arith)) ∙ plain (n * (k + 65)) 1024 (omega (arith, less)) (omega arith)

  pub floats-place : floats_long n k ≡ n * (k + 64) + 64
  unfolding floats_long
  floats-place =
      let less = few 64 (omega arith) in
      ap (λ (m : ℕ). sum m 64) (rows 64 (omega arith)) ∙ plain (n * (k + 64)) 64 (omega (arith, less)) (omega arith)
