-- "Refusal numbers": each row of the table once, as a test with its places, and the first row that holds. Assumes nothing.
use Rattle.std.specs.Prelude.{Ok, Err, Bool, cond, not, ◌&&◌, ◌||◌, List, [], ◌∷◌, ℕ, suc, ◌+◌, ◌-◌, ◌*◌, ◌/◌, leb, ltb, eqb, length, take, get_or, Float}
use Rattle.rules.specs.Answers.{Distance, Answer}
use Rattle.rules.specs.declared.Refusal.{Refusal}
use Rattle.rules.specs.declared.Refusal.TheVariants.{Dimension, Nodes, Lanes, Parameter, Threshold, Buffer, Root, Query, Job, Pair, Draws, State, Step}
use Rattle.rules.specs.Loops.{first_from, any_of, has}
use Rattle.rules.specs.Numbers.{outside, most, bad_threshold}
use Rattle.rules.specs.Distance.{unfit}

-- "no.", and its two "places"
pub record Code : Type 0 where
  pub number : ℕ
  pub first : ℕ
  pub second : ℕ

abbrev pub code : ℕ → ℕ → ℕ → Code
code i a b = record { number = i; first = a; second = b }

unfoldable pub code_of : Refusal → Code
code_of Dimension = code 1 0 0
code_of Nodes = code 2 0 0
code_of Lanes = code 3 0 0
code_of Parameter = code 4 0 0
code_of Threshold = code 5 0 0
code_of Buffer = code 6 0 0
code_of (Root at) = code 7 at 0
code_of Query = code 8 0 0
code_of (Job at) = code 9 at 0
code_of (Pair i j) = code 10 i.0 j.0
code_of Draws = code 11 0 0
code_of State = code 12 0 0
code_of (Step job) = code 13 job 0

-- no refusal
abbrev pub no_refusal : Code
no_refusal = code 0 0 0

-- what the answer of build, begin, open, a move or a close says
unfoldable pub said_of : Answer → Code
said_of (Ok _) = no_refusal
said_of (Err r) = code_of r

-- ---- rows

pub record Row : Type 0 where
  pub test : Bool
  pub gives : Code

abbrev pub row : ℕ → Bool → ℕ → ℕ → Row
row number test first second = record { test = test; gives = code number first second }

pub data Decision : Type 0 where
  passed : Decision
  refused : Code → Decision

-- "A call tests the rows that concern it; of several that hold, the lowest number is given": the first of the call's list
unfoldable pub decide : List Row → Decision
decide [] = passed
decide (r ∷ rs) = cond r.test (refused r.gives) (decide rs)

-- an answer as a decision
unfoldable pub decision_of : Answer → Decision
decision_of (Ok _) = passed
decision_of (Err r) = refused (code_of r)

abbrev pub holds : Bool → Bool
holds b = b

-- "dimension outside 1..64"
unfoldable pub row1 : ℕ → Row
row1 dimension = row 1 (outside 1 most dimension) 0 0

-- "n outside its range"
unfoldable pub row2 : ℕ → ℕ → Row
row2 high n = row 2 (outside 2 high n) 0 0

-- "lane slice is not n times dimension long"
unfoldable pub row3 : ℕ → ℕ → ℕ → Row
row3 dimension n lanes = row 3 (not (eqb lanes (n * dimension))) 0 0

-- "a whole-number parameter is outside its range": the call's parameters in order
unfoldable pub row4 : List Bool → Row
row4 wrong = row 4 (any_of holds wrong) 0 0

-- "threshold NaN or outside -1..1"
unfoldable pub row5 : Float → Row
row5 threshold = row 5 (bad_threshold threshold) 0 0

-- "a lent buffer has the wrong length": the call's buffers
unfoldable pub row6 : List Bool → Row
row6 wrong = row 6 (any_of holds wrong) 0 0

abbrev pub not_exactly : ℕ → ℕ → Bool
not_exactly wanted len = not (eqb len wanted)

abbrev pub less_than : ℕ → ℕ → Bool
less_than wanted len = ltb len wanted

-- "a root is n or more, or repeats an earlier one"
unfoldable pub bad_root : ℕ → List ℕ → ℕ → Bool
bad_root n roots i = leb n (get_or roots i 0) || has (get_or roots i 0) (take i roots)

unfoldable pub first_bad_root : ℕ → List ℕ → ℕ
first_bad_root n roots = first_from (bad_root n roots) 0 (length roots)

-- "root count outside 1..64; or a root is n or more, or repeats an earlier one": "first such place, or 0; 0"
unfoldable pub row7 : ℕ → List ℕ → Row
row7 n roots =
    let bad_count = outside 1 most (length roots) in
    row 7 (bad_count || ltb (first_bad_root n roots) (length roots)) (cond bad_count 0 (first_bad_root n roots)) 0

-- "query length is not the dimension"
unfoldable pub row8 : ℕ → ℕ → Row
row8 dimension query = row 8 (not (eqb query dimension)) 0 0

-- "Jobs are pairs in a u32 slice of even length"
abbrev pub job_count : List ℕ → ℕ
job_count jobs = length jobs / 2

abbrev pub job_u : List ℕ → ℕ → ℕ
job_u jobs i = get_or jobs (2 * i) 0

abbrev pub job_v : List ℕ → ℕ → ℕ
job_v jobs i = get_or jobs (2 * i + 1) 0

-- "a job names a node of n or more"
unfoldable pub bad_job : ℕ → List ℕ → ℕ → Bool
bad_job n jobs i = leb n (job_u jobs i) || leb n (job_v jobs i)

unfoldable pub first_bad_job : ℕ → List ℕ → ℕ
first_bad_job n jobs = first_from (bad_job n jobs) 0 (job_count jobs)

-- "job count outside 1..64, or a job names a node of n or more": "first such job, or 0; 0"
unfoldable pub row9 : ℕ → List ℕ → Row
row9 n jobs =
    let bad_count = outside 1 most (job_count jobs) in
    row 9 (bad_count || ltb (first_bad_job n jobs) (job_count jobs)) (cond bad_count 0 (first_bad_job n jobs)) 0

-- "all pairs i < j, i rising and then j": the first j after i that is unfit with it, and the first i that has one; n where there is none
unfoldable pub unfit_after : (ℕ → ℕ → Distance) → ℕ → ℕ → ℕ
unfit_after apart n i = first_from (λ (j : ℕ). unfit (apart i j)) (suc i) (n - suc i)

unfoldable pub first_unfit : (ℕ → ℕ → Distance) → ℕ → ℕ
first_unfit apart n = first_from (λ (i : ℕ). ltb (unfit_after apart n i) n) 0 n

-- "an unfit distance": "the two nodes"
unfoldable pub row10 : (ℕ → ℕ → Distance) → ℕ → Row
row10 apart n = let i = first_unfit apart n in row 10 (ltb i n) i (unfit_after apart n i)

-- "a relay its jobs with unequal nodes, in order"
unfoldable pub unfit_job : (ℕ → ℕ → Distance) → List ℕ → ℕ → Bool
unfit_job apart jobs i = not (eqb (job_u jobs i) (job_v jobs i)) && unfit (apart (job_u jobs i) (job_v jobs i))

unfoldable pub first_unfit_job : (ℕ → ℕ → Distance) → List ℕ → ℕ
first_unfit_job apart jobs = first_from (unfit_job apart jobs) 0 (job_count jobs)

unfoldable pub row10_of_jobs : (ℕ → ℕ → Distance) → List ℕ → Row
row10_of_jobs apart jobs = let i = first_unfit_job apart jobs in row 10 (ltb i (job_count jobs)) (job_u jobs i) (job_v jobs i)

-- "too few draws"
unfoldable pub row11 : ℕ → ℕ → Row
row11 wanted draws = row 11 (less_than wanted draws) 0 0

-- "lists, descent or relay state that the call reads are not well formed"
unfoldable pub row12 : Bool → Row
row12 well_formed = row 12 (not well_formed) 0 0

-- "a move for an absent or finished job; a close with one unfinished": "that job, or the lowest unfinished; 0"
unfoldable pub row13 : Bool → ℕ → Row
row13 wrong job = row 13 wrong job 0
