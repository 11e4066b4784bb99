-- Which row of a descent's table decides, and what it is that none holds. Assumes nothing.
use mathlib.Core.Path.{◌≡◌, sym, ◌∙◌}
use mathlib.Core.Bool.{Bool, true, false}
use mathlib.Core.List.{List, [], ◌∷◌}
use Prim.Native.Nat.{ℕ, ◌*◌, ◌≤◌}
use native.Mathlib.Nat.{mul-le-mul}
use native.Mathlib.Omega.{arith}
use borrow.Author.Tests.{ltb-false, eqb-true, not-false}
use Rattle.std.specs.Prelude.{Ok, Err}
use Rattle.rules.specs.Answers.{Answer, Distance}
use Rattle.rules.specs.declared.Refusal.{Refusal}
use Rattle.rules.specs.Loops.{any_of}
use Rattle.rules.specs.Numbers.{outside}
use Rattle.rules.specs.Refusals.{Row, code, passed, refused, decide, decision_of, holds, row1, row2, row3, row4, row6, row10}
use Rattle.rules.specs.Calls.{scratch, descent_words, taught_scratch, descent_buffers, descent_rows}
use Rattle.rules.proofs.Tables.{all_fail, held, left, none_hold, within}
use Rattle.table.proofs.Rows.{by_answer, past_answer, game_rows}

-- ---- rows 4 and 6

abbrev pub ranges : ℕ → ℕ → List Bool
ranges k s = outside 1 64 k ∷ outside 1 k s ∷ []

abbrev pub lengths : ℕ → ℕ → ℕ → ℕ → ℕ → ℕ → List Bool
lengths n k us fs words floats = descent_buffers n k us fs (scratch words floats)

-- ---- the rows in order

module _ (dimension n lanes k s us fs words floats : ℕ) (apart : ℕ → ℕ → Distance) where
  abbrev pub rows : List Row
  rows = descent_rows dimension n lanes k s us fs (scratch words floats) apart []

  abbrev lengths_row : Row
  lengths_row = row6 (lengths n k us fs words floats)

  abbrev first : List Row
  first = game_rows 1024 dimension n lanes

  abbrev later : List Row
  later = row4 (ranges k s) ∷ lengths_row ∷ row10 apart n ∷ []

  module _ {a : Answer} (e : decision_of a ≡ decide first) where
    pub by_game : {r : Refusal} → a ≡ Err r → decision_of a ≡ decide rows
    unfolding descent_rows
    by_game f = by_answer first later e f

    module _ (f : a ≡ (Ok tt)) where
      past_game : decide rows ≡ decide later
      unfolding descent_rows
      past_game = past_answer first later e f

      pub by_sizes : any_of holds (ranges k s) ≡ true → refused (code 4 0 0) ≡ decide rows
      unfolding row4
      by_sizes p = sym (past_game ∙ held (row4 (ranges k s)) (lengths_row ∷ row10 apart n ∷ []) p)

      module _ (p : any_of holds (ranges k s) ≡ false) where
        past_sizes : decide rows ≡ decide (lengths_row ∷ row10 apart n ∷ [])
        unfolding row4
        past_sizes = past_game ∙ left (row4 (ranges k s)) (lengths_row ∷ row10 apart n ∷ []) p

        pub by_lengths : any_of holds (lengths n k us fs words floats) ≡ true → refused (code 6 0 0) ≡ decide rows
        unfolding row6
        by_lengths b = sym (past_sizes ∙ held lengths_row (row10 apart n ∷ []) b)

        -- what the pairs decide
        pub by_pairs : any_of holds (lengths n k us fs words floats) ≡ false → (b : Answer) → decision_of b ≡ decide (row10 apart n ∷ []) → decision_of b ≡ decide rows
        unfolding row6
        by_pairs q b g = g ∙ sym (past_sizes ∙ left lengths_row (row10 apart n ∷ []) q)

-- the sizes, once row 4 has passed
pub record Sizes (k s : ℕ) : Type 0 where
  pub some_k : 1 ≤ k
  pub few_k : k ≤ 64
  pub some_s : 1 ≤ s
  pub few_s : s ≤ k

pub sizes_in : (k s : ℕ) → any_of holds (ranges k s) ≡ false → Sizes k s
sizes_in k s h =
    let ranges = none_hold _ h in
    record { some_k = (within 1 64 k ranges.0).from; few_k = (within 1 64 k ranges.0).to; some_s = (within 1 k s ranges.1.0).from; few_s = (within 1 k s ranges.1.0).to }

-- ---- no row holds

pub record Ready (dimension n lanes k s us fs words floats : ℕ) : Type 0 where
  pub lanes_long : lanes ≡ n * dimension
  pub some_nodes : 2 ≤ n
  pub few_nodes : n ≤ 1024
  pub sizes : Sizes k s
  pub state_words : us ≡ descent_words n k
  pub state_floats : fs ≡ n * k
  pub words_room : taught_scratch n ≤ words
  pub floats_room : taught_scratch n ≤ floats

module _ {dimension n lanes k s us fs words floats : ℕ} (apart : ℕ → ℕ → Distance) where
  pub ready : decide (rows dimension n lanes k s us fs words floats apart) ≡ passed → Ready dimension n lanes k s us fs words floats
  unfolding descent_rows row1 row2 row3 row4 row6
  ready h =
      let F = all_fail _ h in
      let lengths = none_hold _ F.1.1.1.1.0 in
      record {
        lanes_long = eqb-true _ _ (not-false _ F.1.1.0);
        some_nodes = (within 2 1024 _ F.1.0).from;
        few_nodes = (within 2 1024 _ F.1.0).to;
        sizes = sizes_in _ _ F.1.1.1.0;
        state_words = eqb-true _ _ (not-false _ lengths.0);
        state_floats = eqb-true _ _ (not-false _ lengths.1.0);
        words_room = ltb-false _ _ lengths.1.1.0;
        floats_room = ltb-false _ _ lengths.1.1.1.0;
      }

-- how many draws there can be to ask for
pub most-draws : (n s : ℕ) → n ≤ 1024 → s ≤ 64 → 2 * n * s ≤ 131072
most-draws n s few small = let p : n * s ≤ 1024 * 64 = mul-le-mul few small in omega arith

pub record Most (n k : ℕ) : Type 0 where
  pub lists : n * k ≤ 65536
  pub pairs : n * n ≤ 1048576

pub sizes-most : (n k : ℕ) → n ≤ 1024 → k ≤ 64 → Most n k
sizes-most n k few small = record { lists = mul-le-mul few small; pairs = mul-le-mul few few }
