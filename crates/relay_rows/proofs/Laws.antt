-- Rows 9 and 10 of open's table, job by job. Assumes nothing.
use mathlib.Core.Path.{◌≡◌, sym, ◌∙◌}
use mathlib.Core.Bool.{Bool, true, false, not, ◌&&◌}
use mathlib.Core.List.{List, [], ◌∷◌}
use Prim.Native.Nat.{ℕ, ◌+◌, ◌-◌, ◌*◌, ◌≤◌, ◌<◌, zero-le}
use native.Mathlib.Nat.{mul-le-mul_right}
use native.Mathlib.Omega.{arith}
use borrow.Author.Tests.{le-leb, lt-leb, lt-ltb, le-ltb, eq-eqb, ne_eqb}
use lib.Dec.{eqb}
use Rattle.rules.specs.Answers.{Distance}
use Rattle.rules.specs.Loops.{first_from}
use Rattle.rules.specs.Distance.{unfit}
use Rattle.rules.specs.Numbers.{outside}
use Rattle.rules.specs.Refusals.{code, decide, passed, refused, job_count, job_u, job_v, bad_job, first_bad_job, row9, unfit_job, first_unfit_job, row10_of_jobs}
use Rattle.rules.proofs.Loops.{first-here, first_turn, first-begun, first-end}

-- ---- row 9

module _ (n : ℕ) (jobs : List ℕ) (i : ℕ) where
  pub bad_u : n ≤ job_u jobs i → bad_job n jobs i ≡ true
  unfolding bad_job
  bad_u h = rw (le-leb n (job_u jobs i) h)

  pub bad_v : job_u jobs i < n → n ≤ job_v jobs i → bad_job n jobs i ≡ true
  unfolding bad_job
  bad_v h g = rw (lt-leb n (job_u jobs i) h, le-leb n (job_v jobs i) g)

  pub not_bad : job_u jobs i < n → job_v jobs i < n → bad_job n jobs i ≡ false
  unfolding bad_job
  not_bad h g = rw (lt-leb n (job_u jobs i) h, lt-leb n (job_v jobs i) g)

  abbrev pub Seeking : Type 0
  Seeking = first_from (bad_job n jobs) i (job_count jobs - i) ≡ first_bad_job n jobs

  pub bad_found : Seeking → i < job_count jobs → bad_job n jobs i ≡ true → i ≡ first_bad_job n jobs
  bad_found inv h e = sym (first-here (bad_job n jobs) (job_count jobs) i h e) ∙ inv

  pub bad_turn : Seeking → i < job_count jobs → bad_job n jobs i ≡ false → first_from (bad_job n jobs) (i + 1) (job_count jobs - (i + 1)) ≡ first_bad_job n jobs
  bad_turn inv h e = first_turn (bad_job n jobs) (job_count jobs) i h e ∙ inv

  pub bad_end : Seeking → job_count jobs ≤ i → i ≡ first_bad_job n jobs
  bad_end inv h = sym (first-end (bad_job n jobs) (job_count jobs) i h) ∙ inv

pub bad_begun : (n : ℕ) (jobs : List ℕ) → first_from (bad_job n jobs) 0 (job_count jobs - 0) ≡ first_bad_job n jobs
unfolding first_bad_job
bad_begun n jobs = first-begun (bad_job n jobs) (job_count jobs) 0

module _ (n : ℕ) (jobs : List ℕ) where
  pub by_count : outside 1 64 (job_count jobs) ≡ true → refused (code 9 0 0) ≡ decide (row9 n jobs ∷ [])
  unfolding row9 decide
  by_count h = rw h

  pub by_job : (at : ℕ) → outside 1 64 (job_count jobs) ≡ false → at ≡ first_bad_job n jobs → at < job_count jobs → refused (code 9 at 0) ≡ decide (row9 n jobs ∷ [])
  unfolding row9 decide
  by_job at e f h = rw (e, ← f, lt-ltb at (job_count jobs) h)

  pub by_none : (at : ℕ) → outside 1 64 (job_count jobs) ≡ false → at ≡ first_bad_job n jobs → job_count jobs ≤ at → passed ≡ decide (row9 n jobs ∷ [])
  unfolding row9 decide
  by_none at e f h = rw (e, ← f, le-ltb at (job_count jobs) h)

-- ---- row 10

module _ (apart : ℕ → ℕ → Distance) (jobs : List ℕ) where
  abbrev pub Seen : ℕ → Type 0
  Seen i = first_from (unfit_job apart jobs) i (job_count jobs - i) ≡ first_unfit_job apart jobs

  pub seen_none : Seen 0
  unfolding first_unfit_job
  seen_none = first-begun (unfit_job apart jobs) (job_count jobs) 0

  pub unfit-found : (i : ℕ) → Seen i → i < job_count jobs → unfit_job apart jobs i ≡ true → refused (code 10 (job_u jobs i) (job_v jobs i)) ≡ decide (row10_of_jobs apart jobs ∷ [])
  unfolding row10_of_jobs decide
  unfit-found i inv h t =
      let at : i ≡ first_unfit_job apart jobs = sym (first-here (unfit_job apart jobs) (job_count jobs) i h t) ∙ inv in
      rw (← at, lt-ltb i (job_count jobs) h)

  pub unfit_turn : (i : ℕ) → Seen i → i < job_count jobs → unfit_job apart jobs i ≡ false → Seen (i + 1)
  unfit_turn i inv h e = first_turn (unfit_job apart jobs) (job_count jobs) i h e ∙ inv

  pub unfit-end : (i : ℕ) → Seen i → job_count jobs ≤ i → passed ≡ decide (row10_of_jobs apart jobs ∷ [])
  unfolding row10_of_jobs decide
  unfit-end i inv h =
      let at : i ≡ first_unfit_job apart jobs = sym (first-end (unfit_job apart jobs) (job_count jobs) i h) ∙ inv in
      rw (← at, le-ltb i (job_count jobs) h)

-- ---- from the front

pub record Seek (n count : ℕ) (jobs : List ℕ) (i : ℕ) : Type 0 where
  pub within : i ≤ count
  pub all : count ≡ job_count jobs
  pub left : Seeking n jobs i

pub seek_none : {n count : ℕ} {jobs : List ℕ} → count ≡ job_count jobs → Seek n count jobs 0
seek_none {n} {count} {jobs} e = record { within = zero-le; all = e; left = bad_begun n jobs }

module _ {n count : ℕ} {jobs : List ℕ} {i : ℕ} (inv : Seek n count jobs i) where
  pub seek_u : i < count → n ≤ job_u jobs i → i ≡ first_bad_job n jobs
  seek_u h g = let all = inv.all in bad_found n jobs i inv.left (omega arith) (bad_u n jobs i g)

  pub seek_v : i < count → job_u jobs i < n → n ≤ job_v jobs i → i ≡ first_bad_job n jobs
  seek_v h f g = let all = inv.all in bad_found n jobs i inv.left (omega arith) (bad_v n jobs i f g)

  pub seek_turn : i < count → job_u jobs i < n → job_v jobs i < n → Seek n count jobs (i + 1)
  seek_turn h f g = let all = inv.all in record { within = omega arith; all = inv.all; left = bad_turn n jobs i inv.left (omega arith) (not_bad n jobs i f g) }

  pub seek_end : count ≤ i → i ≡ first_bad_job n jobs
  seek_end h = let all = inv.all in bad_end n jobs i inv.left (omega arith)

pub record Measuring (apart : ℕ → ℕ → Distance) (count : ℕ) (jobs : List ℕ) (i : ℕ) : Type 0 where
  pub within : i ≤ count
  pub all : count ≡ job_count jobs
  pub left : Seen apart jobs i

pub measuring_none : {apart : ℕ → ℕ → Distance} {count : ℕ} {jobs : List ℕ} → count ≡ job_count jobs → Measuring apart count jobs 0
measuring_none {apart} {count} {jobs} e = record { within = zero-le; all = e; left = seen_none apart jobs }

module _ {apart : ℕ → ℕ → Distance} {count : ℕ} {jobs : List ℕ} {i : ℕ} (inv : Measuring apart count jobs i) where
  pub measuring_found : {b : Bool} → i < count → b ≡ (not (eqb (job_u jobs i) (job_v jobs i)) && unfit (apart (job_u jobs i) (job_v jobs i))) → b ≡ true
      → refused (code 10 (job_u jobs i) (job_v jobs i)) ≡ decide (row10_of_jobs apart jobs ∷ [])
  unfolding unfit_job
  measuring_found h e t = let all = inv.all in unfit-found apart jobs i inv.left (omega arith) (sym e ∙ t)

  pub measuring_turn : {b : Bool} → i < count → b ≡ (not (eqb (job_u jobs i) (job_v jobs i)) && unfit (apart (job_u jobs i) (job_v jobs i))) → b ≡ false → Measuring apart count jobs (i + 1)
  unfolding unfit_job
  measuring_turn h e t = let all = inv.all in record { within = omega arith; all = inv.all; left = unfit_turn apart jobs i inv.left (omega arith) (sym e ∙ t) }

  pub measuring_end : count ≤ i → passed ≡ decide (row10_of_jobs apart jobs ∷ [])
  measuring_end h = let all = inv.all in unfit-end apart jobs i inv.left (omega arith)

-- one job

module _ (apart : ℕ → ℕ → Distance) (u v : ℕ) where
  pub equal_nodes_lem : u ≡ v → false ≡ (not (eqb u v) && unfit (apart u v))
  equal_nodes_lem e = rw (eq-eqb u v e)

  pub other-nodes : (u ≡ v → ⊥) → unfit (apart u v) ≡ (not (eqb u v) && unfit (apart u v))
  other-nodes e = rw (ne_eqb u v e)

-- a node's lanes lie in those of the game
pub lanes_in : (dimension n u : ℕ) {lanes : ℕ} → lanes ≡ n * dimension → u < n → (u + 1) * dimension ≤ lanes
lanes_in dimension n u {lanes} e h = let m : (u + 1) * dimension ≤ n * dimension = mul-le-mul_right dimension (let g : u + 1 ≤ n = omega arith in g) in omega arith
