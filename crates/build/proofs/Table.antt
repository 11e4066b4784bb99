-- Which row of build's table decides, and what it is that none holds. Assumes nothing.
use mathlib.Core.Path.{◌≡◌, sym, ◌∙◌}
use mathlib.Core.Bool.{Bool, true, false}
use mathlib.Core.List.{List, [], ◌∷◌}
use Prim.Native.Nat.{ℕ, ◌*◌, ◌≤◌}
use borrow.Author.Tests.{ltb-false, eqb-true, not-false}
use lib.ListN.{length}
use Rattle.std.specs.Prelude.{Ok, Err}
use Rattle.rules.specs.Answers.{Answer}
use Rattle.rules.specs.declared.Refusal.{Refusal}
use Rattle.rules.specs.Loops.{any_of}
use Rattle.rules.specs.Numbers.{outside, bad_threshold}
use Rattle.rules.specs.Distance.{nodes_apart}
use Rattle.rules.specs.Refusals.{Row, code, passed, refused, decide, decision_of, holds, not_exactly, less_than, row1, row2, row3, row4, row5, row6, row10}
use Rattle.rules.specs.Calls.{build_scratch, build_rows}
use Rattle.rules.specs.BuildCall.{BuildLent, build_table}
use Rattle.rules.proofs.Tables.{all_fail, held, left, none_hold, within}
use Rattle.table.proofs.Rows.{by_answer, past_answer, game_rows}
use Rattle.build.specs.Build.{Ready}

-- ---- rows 4 and 6

abbrev pub ranges : ℕ → ℕ → ℕ → List Bool
ranges k w hops = outside 1 64 k ∷ outside 1 64 w ∷ outside 1 256 hops ∷ []

abbrev pub lengths : ℕ → ℕ → ℕ → ℕ → ℕ → ℕ → List Bool
lengths n k w graph words floats = not_exactly (n * w) graph ∷ less_than (build_scratch n k w) words ∷ less_than (build_scratch n k w) floats ∷ []

-- ---- the rows in order

module _ (l : BuildLent) where
  abbrev sizes_row : Row
  sizes_row = row4 (ranges l.sizes.init_k l.sizes.index_size l.sizes.neighbor_neighbor_size)

  abbrev lengths_row : Row
  lengths_row = row6 (lengths l.n l.sizes.init_k l.sizes.index_size (length l.graph) (length l.scratch_u) (length l.scratch_f))

  abbrev pairs_row : Row
  pairs_row = row10 (nodes_apart l.lanes l.dimension) l.n

  abbrev first : List Row
  first = game_rows 4096 l.dimension l.n (length l.lanes)

  abbrev later : List Row
  later = sizes_row ∷ row5 l.sizes.threshold ∷ lengths_row ∷ pairs_row ∷ []

  module _ {a : Answer} (e : decision_of a ≡ decide first) where
    pub by_game : {r : Refusal} → a ≡ Err r → decision_of a ≡ decide (build_table l)
    unfolding build_table build_rows
    by_game f = by_answer first later e f

    module _ (f : a ≡ (Ok tt)) where
      past_game : decide (build_table l) ≡ decide later
      unfolding build_table build_rows
      past_game = past_answer first later e f

      pub by_sizes : any_of holds (ranges l.sizes.init_k l.sizes.index_size l.sizes.neighbor_neighbor_size) ≡ true → refused (code 4 0 0) ≡ decide (build_table l)
      unfolding row4
      by_sizes p = sym (past_game ∙ held sizes_row (row5 l.sizes.threshold ∷ lengths_row ∷ pairs_row ∷ []) p)

      module _ (p : any_of holds (ranges l.sizes.init_k l.sizes.index_size l.sizes.neighbor_neighbor_size) ≡ false) where
        past_sizes : decide (build_table l) ≡ decide (row5 l.sizes.threshold ∷ lengths_row ∷ pairs_row ∷ [])
        unfolding row4
        past_sizes = past_game ∙ left sizes_row (row5 l.sizes.threshold ∷ lengths_row ∷ pairs_row ∷ []) p

        pub by_threshold : bad_threshold l.sizes.threshold ≡ true → refused (code 5 0 0) ≡ decide (build_table l)
        unfolding row5
        by_threshold t = sym (past_sizes ∙ held (row5 l.sizes.threshold) (lengths_row ∷ pairs_row ∷ []) t)

        module _ (t : bad_threshold l.sizes.threshold ≡ false) where
          past_threshold : decide (build_table l) ≡ decide (lengths_row ∷ pairs_row ∷ [])
          unfolding row5
          past_threshold = past_sizes ∙ left (row5 l.sizes.threshold) (lengths_row ∷ pairs_row ∷ []) t

          pub by_lengths : any_of holds (lengths l.n l.sizes.init_k l.sizes.index_size (length l.graph) (length l.scratch_u) (length l.scratch_f)) ≡ true → refused (code 6 0 0) ≡ decide (build_table l)
          unfolding row6
          by_lengths b = sym (past_threshold ∙ held lengths_row (pairs_row ∷ []) b)

          -- what the pairs decide
          pub by_pairs : any_of holds (lengths l.n l.sizes.init_k l.sizes.index_size (length l.graph) (length l.scratch_u) (length l.scratch_f)) ≡ false → (b : Answer) → decision_of b ≡ decide (pairs_row ∷ []) → decision_of b ≡ decide (build_table l)
          unfolding row6
          by_pairs q b g = g ∙ sym (past_threshold ∙ left lengths_row (pairs_row ∷ []) q)

-- the sizes, once row 4 has passed
pub record Sizes (k w hops : ℕ) : Type 0 where
  pub some_k : 1 ≤ k
  pub few_k : k ≤ 64
  pub some_slots : 1 ≤ w
  pub few_slots : w ≤ 64
  pub few_hops : hops ≤ 256

pub sizes_in : (k w hops : ℕ) → any_of holds (ranges k w hops) ≡ false → Sizes k w hops
sizes_in k w hops h =
    let ranges = none_hold _ h in
    record {
      some_k = (within 1 64 k ranges.0).from;
      few_k = (within 1 64 k ranges.0).to;
      some_slots = (within 1 64 w ranges.1.0).from;
      few_slots = (within 1 64 w ranges.1.0).to;
      few_hops = (within 1 256 hops ranges.1.1.0).to;
    }

-- ---- no row holds

pub ready : (l : BuildLent) → decide (build_table l) ≡ passed → Ready l
unfolding build_table build_rows row1 row2 row3 row4 row5 row6
ready l h =
    let F = all_fail _ h in
    let s = sizes_in _ _ _ F.1.1.1.0 in
    let lengths = none_hold _ F.1.1.1.1.1.0 in
    record {
      lanes_long = eqb-true _ _ (not-false _ F.1.1.0);
      some_nodes = (within 2 4096 _ F.1.0).from;
      few_nodes = (within 2 4096 _ F.1.0).to;
      some_k = s.some_k;
      few_k = s.few_k;
      some_slots = s.some_slots;
      few_slots = s.few_slots;
      few_hops = s.few_hops;
      graph_long = eqb-true _ _ (not-false _ lengths.0);
      words_room = ltb-false _ _ lengths.1.0;
      floats_room = ltb-false _ _ lengths.1.1.0;
    }
