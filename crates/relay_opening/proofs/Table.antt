-- Which row of open's table decides, and what it is that none holds. Assumes nothing.
use mathlib.Core.Path.{◌≡◌, refl, sym, ap, ◌∙◌}
use mathlib.Core.Bool.{Bool, true, false, not, ◌||◌}
use mathlib.Core.List.{List, [], ◌∷◌, ◌++◌}
use Prim.Native.Nat.{ℕ, ◌+◌, ◌*◌, ◌%◌, ◌≤◌, ◌<◌}
use native.Mathlib.Nat.{mul-le-mul}
use native.Mathlib.Omega.{arith}
use borrow.Author.Tests.{leb-false, eqb-true, not-false, eq-eqb, ne_eqb, lt-ltb, le-ltb}
use lib.Dec.{leb, ltb, eqb}
use Rattle.std.specs.Prelude.{Ok, Err}
use Rattle.rules.specs.Answers.{Answer, Distance}
use Rattle.rules.specs.declared.Refusal.{Refusal}
use Rattle.rules.specs.Loops.{any_of}
use Rattle.rules.specs.Numbers.{outside}
use Rattle.rules.specs.Refusals.{Row, code, passed, refused, decide, decision_of, holds, not_exactly, less_than, row1, row2, row3, row4, row6, row9, row10_of_jobs, row12, job_count, job_u, job_v, bad_job, first_bad_job}
use Rattle.rules.specs.Calls.{scratch, odd, relay_words, relay_floats, taught_scratch, open_rows}
use Rattle.rules.proofs.Tables.{all_fail, held, left, none_hold, within}
use Rattle.rules.proofs.Tests.{neither, or-false}
use Rattle.table.proofs.Rows.{by_answer, past_answer, game_rows}
use Rattle.relay_open.specs.Open.{JobsIn}
use Rattle.relay_kept.proofs.Opening.{job-passes}

-- ---- row 6

any_append : (xs ys : List Bool) → any_of holds (xs ++ ys) ≡ (any_of holds xs || any_of holds ys)
unfolding any_of
any_append [] ys = refl
any_append (true ∷ xs) ys = refl
any_append (false ∷ xs) ys = any_append xs ys

module _ (n k nodes distances jobs : ℕ) where
  abbrev pub lists : List Bool
  lists = not_exactly (n * k) nodes ∷ not_exactly (n * k) distances ∷ odd jobs ∷ []

  pub wrong_nodes : (nodes ≡ n * k → ⊥) → true ≡ any_of holds lists
  unfolding any_of
  wrong_nodes e = rw (ne_eqb nodes (n * k) e)

  pub wrong_distances : nodes ≡ n * k → (distances ≡ n * k → ⊥) → true ≡ any_of holds lists
  unfolding any_of
  wrong_distances e f = rw (eq-eqb nodes (n * k) e, ne_eqb distances (n * k) f)

  pub wrong_jobs : nodes ≡ n * k → distances ≡ n * k → not (eqb (jobs % 2) 0) ≡ any_of holds lists
  unfolding any_of
  wrong_jobs e f = rw (eq-eqb nodes (n * k) e, eq-eqb distances (n * k) f) (or-false (not (eqb (jobs % 2) 0)))

  pub lists-long : any_of holds lists ≡ false → (nodes ≡ n * k) × (distances ≡ n * k)
  lists-long h =
      let lengths = none_hold _ h in
      (eqb-true _ _ (not-false _ lengths.0), eqb-true _ _ (not-false _ lengths.1.0))

module _ (n k words floats su sf : ℕ) where
  abbrev pub places : List Bool
  places = not_exactly (relay_words n k) words ∷ not_exactly (relay_floats n k) floats ∷ less_than (taught_scratch n) su ∷ less_than (taught_scratch n) sf ∷ []

  pub wrong_words : (words ≡ relay_words n k → ⊥) → true ≡ any_of holds places
  unfolding any_of
  wrong_words e = rw (ne_eqb words (relay_words n k) e)

  pub wrong_floats : words ≡ relay_words n k → (floats ≡ relay_floats n k → ⊥) → true ≡ any_of holds places
  unfolding any_of
  wrong_floats e f = rw (eq-eqb words (relay_words n k) e, ne_eqb floats (relay_floats n k) f)

  pub wrong_scratch : words ≡ relay_words n k → floats ≡ relay_floats n k → su < taught_scratch n → true ≡ any_of holds places
  unfolding any_of
  wrong_scratch e f g = rw (eq-eqb words (relay_words n k) e, eq-eqb floats (relay_floats n k) f, lt-ltb su (taught_scratch n) g)

  pub wrong_last : words ≡ relay_words n k → floats ≡ relay_floats n k → taught_scratch n ≤ su → ltb sf (taught_scratch n) ≡ any_of holds places
  unfolding any_of
  wrong_last e f g = rw (eq-eqb words (relay_words n k) e, eq-eqb floats (relay_floats n k) f, le-ltb su (taught_scratch n) g) (or-false (ltb sf (taught_scratch n)))

-- ---- the rows in order

module _ (dimension n lanes k nodes distances : ℕ) (jobs : List ℕ) (jobs_long words floats su sf : ℕ) (apart : ℕ → ℕ → Distance) (formed : Bool) where
  abbrev pub rows : List Row
  rows = open_rows dimension n lanes k nodes distances jobs jobs_long words floats (scratch su sf) apart formed

  abbrev first : List Row
  first = game_rows 1024 dimension n lanes

  abbrev lengths_row : Row
  lengths_row = row6 (lists n k nodes distances jobs_long ++ places n k words floats su sf)

  abbrev after_lengths : List Row
  after_lengths = row9 n jobs ∷ row10_of_jobs apart jobs ∷ row12 formed ∷ []

  abbrev size_row : Row
  size_row = row4 (outside 1 64 k ∷ [])

  module _ {a : Answer} (e : decision_of a ≡ decide first) where
    pub by_game : {r : Refusal} → a ≡ Err r → decision_of a ≡ decide rows
    unfolding open_rows
    by_game f = by_answer first (size_row ∷ lengths_row ∷ after_lengths) e f

    module _ (f : a ≡ (Ok tt)) where
      past_game : decide rows ≡ decide (size_row ∷ lengths_row ∷ after_lengths)
      unfolding open_rows
      past_game = past_answer first (size_row ∷ lengths_row ∷ after_lengths) e f

      pub by_k : outside 1 64 k ≡ true → refused (code 4 0 0) ≡ decide rows
      unfolding row4 any_of decide
      by_k p = sym (past_game ∙ rw p)

      module _ (p : outside 1 64 k ≡ false) where
        past_k : decide rows ≡ decide (lengths_row ∷ after_lengths)
        unfolding row4 any_of
        past_k = past_game ∙ left size_row (lengths_row ∷ after_lengths) (rw p)

        pub by_lists : any_of holds (lists n k nodes distances jobs_long) ≡ true → refused (code 6 0 0) ≡ decide rows
        unfolding row6
        by_lists h =
            sym (past_k ∙ held lengths_row after_lengths (any_append (lists n k nodes distances jobs_long) (places n k words floats su sf) ∙ ap (λ (b : Bool). b || any_of holds (places n k words floats su sf)) h))

        module _ (h : any_of holds (lists n k nodes distances jobs_long) ≡ false) where
          whole : {b : Bool} → any_of holds (places n k words floats su sf) ≡ b → lengths_row.test ≡ b
          unfolding row6
          whole g = any_append (lists n k nodes distances jobs_long) (places n k words floats su sf) ∙ ap (λ (b : Bool). b || any_of holds (places n k words floats su sf)) h ∙ g

          pub by_places : any_of holds (places n k words floats su sf) ≡ true → refused (code 6 0 0) ≡ decide rows
          unfolding row6
          by_places g = sym (past_k ∙ held lengths_row after_lengths (whole g))

          module _ (g : any_of holds (places n k words floats su sf) ≡ false) where
            past_lengths : decide rows ≡ decide after_lengths
            past_lengths = past_k ∙ left lengths_row after_lengths (whole g)

            module _ {j : Answer} (ej : decision_of j ≡ decide (row9 n jobs ∷ [])) where
              pub by_jobs : {r : Refusal} → j ≡ Err r → decision_of j ≡ decide rows
              by_jobs fj = by_answer (row9 n jobs ∷ []) (row10_of_jobs apart jobs ∷ row12 formed ∷ []) ej fj ∙ sym past_lengths

              module _ (fj : j ≡ (Ok tt)) where
                past_jobs : decide rows ≡ decide (row10_of_jobs apart jobs ∷ row12 formed ∷ [])
                past_jobs = past_lengths ∙ past_answer (row9 n jobs ∷ []) (row10_of_jobs apart jobs ∷ row12 formed ∷ []) ej fj

                module _ {u : Answer} (eu : decision_of u ≡ decide (row10_of_jobs apart jobs ∷ [])) where
                  pub by_unfit : {r : Refusal} → u ≡ Err r → decision_of u ≡ decide rows
                  by_unfit fu = by_answer (row10_of_jobs apart jobs ∷ []) (row12 formed ∷ []) eu fu ∙ sym past_jobs

                  module _ (fu : u ≡ (Ok tt)) where
                    past_unfit : decide rows ≡ decide (row12 formed ∷ [])
                    past_unfit = past_jobs ∙ past_answer (row10_of_jobs apart jobs ∷ []) (row12 formed ∷ []) eu fu

                    pub by_formed : formed ≡ true → passed ≡ decide rows
                    unfolding row12 decide
                    by_formed t = sym (past_unfit ∙ rw t)

                    pub by_state : formed ≡ false → refused (code 12 0 0) ≡ decide rows
                    unfolding row12 decide
                    by_state t = sym (past_unfit ∙ rw t)

-- ---- jobs that row 9 passes

pub jobs_in : (n : ℕ) (jobs : List ℕ) → (row9 n jobs).test ≡ false → JobsIn n jobs
unfolding row9 bad_job
jobs_in n jobs h =
    let count = neither (outside 1 64 (job_count jobs)) (ltb (first_bad_job n jobs) (job_count jobs)) h in
    record {
      few = (within 1 64 (job_count jobs) count.0).to;
      us = λ (i : ℕ) (l : i < job_count jobs). leb-false n (job_u jobs i) (neither (leb n (job_u jobs i)) (leb n (job_v jobs i)) (job-passes n jobs h i l)).0;
      vs = λ (i : ℕ) (l : i < job_count jobs). leb-false n (job_v jobs i) (neither (leb n (job_u jobs i)) (leb n (job_v jobs i)) (job-passes n jobs h i l)).1;
    }

pub jobs-passed : {n : ℕ} {jobs : List ℕ} {j : Answer} → decision_of j ≡ decide (row9 n jobs ∷ []) → j ≡ (Ok tt) → JobsIn n jobs
unfolding decision_of
jobs-passed {n} {jobs} e f = jobs_in n jobs (all_fail (row9 n jobs ∷ []) (sym e ∙ ap decision_of f)).0

-- ---- no row holds

pub record Ready (dimension n lanes k nodes distances : ℕ) (jobs : List ℕ) (words floats : ℕ) : Type 0 where
  pub lanes_long : lanes ≡ n * dimension
  pub few_nodes : n ≤ 1024
  pub some_k : 1 ≤ k
  pub few_k : k ≤ 64
  pub nodes_long : nodes ≡ n * k
  pub distances_long : distances ≡ n * k
  pub words_long : words ≡ relay_words n k
  pub floats_long : floats ≡ relay_floats n k
  pub jobs_good : JobsIn n jobs

pub ready : {dimension n lanes k nodes distances : ℕ} {jobs : List ℕ} {words floats : ℕ} (jobs_long su sf : ℕ) (apart : ℕ → ℕ → Distance) (formed : Bool)
    → decide (rows dimension n lanes k nodes distances jobs jobs_long words floats su sf apart formed) ≡ passed → Ready dimension n lanes k nodes distances jobs words floats
unfolding open_rows row1 row2 row3 row4 row6
ready {dimension} {n} {lanes} {k} {nodes} {distances} {jobs} jobs_long su sf apart formed h =
    let F = all_fail _ h in
    let ranges = none_hold _ F.1.1.1.0 in
    let lengths = none_hold _ F.1.1.1.1.0 in
    record {
      lanes_long = eqb-true _ _ (not-false _ F.1.1.0);
      few_nodes = (within 2 1024 _ F.1.0).to;
      some_k = (within 1 64 _ ranges.0).from;
      few_k = (within 1 64 _ ranges.0).to;
      nodes_long = eqb-true _ _ (not-false _ lengths.0);
      distances_long = eqb-true _ _ (not-false _ lengths.1.0);
      words_long = eqb-true _ _ (not-false _ lengths.1.1.1.0);
      floats_long = eqb-true _ _ (not-false _ lengths.1.1.1.1.0);
      jobs_good = jobs_in n jobs F.1.1.1.1.1.0;
    }

pub record Most (n k : ℕ) : Type 0 where
  pub lists : n * k ≤ 65536
  pub rooms : n * (k + 64) ≤ 131072
  pub words : n * (k + 65) ≤ 132096

pub sizes-most : (n k : ℕ) → n ≤ 1024 → k ≤ 64 → Most n k
sizes-most n k few small =
    record {
      lists = mul-le-mul few small;
      rooms = mul-le-mul few (let h : k + 64 ≤ 128 = omega arith in h);
      words = mul-le-mul few (let h : k + 65 ≤ 129 = omega arith in h);
    }
