-- Totals of distances stay binary32 values; what a distance answer says is what the table and the calls say of it. Assumes nothing.
use mathlib.Core.Path.{◌≡◌, refl, sym}
use mathlib.Core.Bool.{true, false, true≢false}
use mathlib.Core.List.{List, [], ◌∷◌}
use Prim.Native.Nat.{ℕ}
use lib.Dec.{T}
use lib.Ieee.{Float, binary32, fits}
use lib.Ieee.Fits.{add-fits}
use Rattle.std.specs.Prelude.{Some, None}
use Rattle.rules.specs.declared.NodeId.{NodeId}
use Rattle.rules.specs.Answers.{Distance}
use Rattle.rules.specs.declared.Refusal.TheVariants.{Pair}
use Rattle.rules.specs.Distance.{lane, total_of, measure_of, unfit, carried}
use Rattle.rules.specs.Refusals.{code_of, no_refusal, row10, row10_of_jobs}
use Rattle.rules.specs.Search.{unfit_at}
use Rattle.rules.specs.SearchCall.{SearchLent, search_zeroed, search_ends}

pub total-fits : (total : Float) (a b : List Float) → T (fits binary32 total) → T (fits binary32 (total_of total a b))
unfolding total_of lane
total-fits total [] y h = h
total-fits total (a ∷ x) [] h = h
total-fits total (a ∷ x) (b ∷ y) h = total-fits (lane total a b) x y (add-fits binary32 total _)

-- "When an answer is an enum, a definition tells you this paper's number and values for each of its cases.": a distance answer's number is that of no refusal
-- or that of row 10, wherever 10 is given, and its value the distance that it carries
pub record SaidOfDistance : Type 0 where
  pub value : (x : Distance) → (measure_of x).value ≡ carried x
  pub fit_number : (x : Distance) → unfit x ≡ false → (measure_of x).number ≡ no_refusal.number
  pub unfit_number : (x : Distance) → unfit x ≡ true → (i j : NodeId) → (measure_of x).number ≡ (code_of (Pair i j)).number
  pub of_pairs : (apart : ℕ → ℕ → Distance) (n : ℕ) → (row10 apart n).gives.number ≡ (measure_of None).number
  pub of_jobs : (apart : ℕ → ℕ → Distance) (jobs : List ℕ) → (row10_of_jobs apart jobs).gives.number ≡ (measure_of None).number
  pub of_search : (l : SearchLent) (v : ℕ) → (search_ends l (unfit_at v)).said.code.number ≡ (measure_of None).number

pub said_of_distance : SaidOfDistance
unfolding measure_of carried unfit code_of row10 row10_of_jobs search_ends search_zeroed
said_of_distance = record { value = values; fit_number = fits-number; unfit_number = unfits_number; of_pairs = λ apart n. refl; of_jobs = λ apart jobs. refl; of_search = λ l v. refl }
  where
    values : (x : Distance) → (measure_of x).value ≡ carried x
    values (Some x) = refl
    values None = refl

    fits-number : (x : Distance) → unfit x ≡ false → (measure_of x).number ≡ no_refusal.number
    fits-number (Some x) h = refl
    fits-number None h = absurd (true≢false h)

    unfits_number : (x : Distance) → unfit x ≡ true → (i j : NodeId) → (measure_of x).number ≡ (code_of (Pair i j)).number
    unfits_number (Some x) h i j = absurd (true≢false (sym h))
    unfits_number None h i j = refl
