-- Which row of search's table decides, and what it is that none holds. Assumes nothing.
use mathlib.Core.Path.{◌≡◌, refl, sym, ap, ◌∙◌}
use mathlib.Core.Bool.{Bool, true, false, not, ◌||◌}
use mathlib.Core.List.{List, [], ◌∷◌}
use Prim.Native.Nat.{ℕ, ◌*◌, ◌≤◌, ◌<◌}
use native.Mathlib.Omega.{arith}
use borrow.Author.Tests.{ltb-false, eqb-true, leb-false, not-false, eq-eqb, ne_eqb, lt-ltb, le-ltb}
use lib.Dec.{leb, ltb, eqb}
use lib.ListN.{length, take, get_or}
use Rattle.std.specs.Prelude.{Ok, Err}
use Rattle.rules.specs.Answers.{Answer}
use Rattle.rules.specs.declared.Refusal.{Refusal}
use Rattle.rules.specs.Loops.{any_of, has}
use Rattle.rules.specs.Numbers.{outside}
use Rattle.rules.specs.Refusals.{Row, code, code_of, passed, refused, decide, decision_of, holds, not_exactly, less_than, row1, row2, row3, row4, row6, row7, row8, bad_root, first_bad_root}
use Rattle.rules.specs.Calls.{scratch, search_scratch, search_rows}
use Rattle.rules.specs.SearchCall.{SearchLent, search_table}
use Rattle.rules.proofs.Loops.{first-before}
use Rattle.rules.proofs.Tables.{goes_on, stops, all_fail, held, left, none_hold, within}
use Rattle.rules.proofs.Tests.{neither, or-false}
use Rattle.table.proofs.Rows.{by_answer, past_answer, game_rows}
use Rattle.walk.specs.Walks.{Roots}
use Rattle.search.specs.Search.{Ready}

-- ---- row 6

module _ (n graph w k results bits words floats : ℕ) where
  abbrev pub lengths : List Bool
  lengths = not_exactly (n * w) graph ∷ less_than k results ∷ less_than k bits ∷ less_than (search_scratch n) words ∷ less_than (search_scratch n) floats ∷ []

  pub wrong_graph : (graph ≡ n * w → ⊥) → true ≡ any_of holds lengths
  unfolding any_of
  wrong_graph e = rw (ne_eqb graph (n * w) e)

  pub wrong_results : graph ≡ n * w → results < k → true ≡ any_of holds lengths
  unfolding any_of
  wrong_results e h = rw (eq-eqb graph (n * w) e, lt-ltb results k h)

  pub wrong_bits : graph ≡ n * w → k ≤ results → bits < k → true ≡ any_of holds lengths
  unfolding any_of
  wrong_bits e f h = rw (eq-eqb graph (n * w) e, le-ltb results k f, lt-ltb bits k h)

  pub wrong_words : graph ≡ n * w → k ≤ results → k ≤ bits → words < search_scratch n → true ≡ any_of holds lengths
  unfolding any_of
  wrong_words e f g h = rw (eq-eqb graph (n * w) e, le-ltb results k f, le-ltb bits k g, lt-ltb words (search_scratch n) h)

  pub wrong_floats : graph ≡ n * w → k ≤ results → k ≤ bits → search_scratch n ≤ words → ltb floats (search_scratch n) ≡ any_of holds lengths
  unfolding any_of
  wrong_floats e f g h = rw (eq-eqb graph (n * w) e, le-ltb results k f, le-ltb bits k g, le-ltb words (search_scratch n) h) (or-false (ltb floats (search_scratch n)))

-- ---- the rows in order

module _ (dimension n lanes graph w : ℕ) (roots : List ℕ) (query k results bits words floats : ℕ) where
  abbrev rows : List Row
  rows = search_rows dimension n lanes graph w roots query k results bits (scratch words floats)

  abbrev later : List Row
  later =
      row4 (outside 1 64 w ∷ outside 1 64 k ∷ []) ∷ row6 (lengths n graph w k results bits words floats) ∷ row7 n roots ∷ row8 dimension query ∷ []

  pub by_game : {a : Answer} {r : Refusal} → decision_of a ≡ decide (game_rows 4096 dimension n lanes) → a ≡ Err r → decision_of a ≡ decide rows
  unfolding search_rows decision_of
  by_game {a} {r} e f = by_answer (game_rows 4096 dimension n lanes) later e f

  module _ {a : Answer} (e : decision_of a ≡ decide (game_rows 4096 dimension n lanes)) (f : a ≡ (Ok tt)) where
    past_game : decide rows ≡ decide later
    unfolding search_rows decision_of
    past_game = past_answer (game_rows 4096 dimension n lanes) later e f

    pub by_width : outside 1 64 w ≡ true → refused (code 4 0 0) ≡ decide rows
    unfolding decide row4 any_of
    by_width p = sym (past_game ∙ rw p)

    pub by_k : outside 1 64 w ≡ false → outside 1 64 k ≡ true → refused (code 4 0 0) ≡ decide rows
    unfolding decide row4 any_of
    by_k p q = sym (past_game ∙ rw (p, q))

    module _ (p : outside 1 64 w ≡ false) (q : outside 1 64 k ≡ false) where
      past_params : decide rows ≡ decide (row6 (lengths n graph w k results bits words floats) ∷ row7 n roots ∷ row8 dimension query ∷ [])
      unfolding row4 any_of
      past_params = past_game ∙ left (row4 (outside 1 64 w ∷ outside 1 64 k ∷ [])) (row6 (lengths n graph w k results bits words floats) ∷ row7 n roots ∷ row8 dimension query ∷ []) (rw (p, q))

      pub by_lengths : any_of holds (lengths n graph w k results bits words floats) ≡ true → refused (code 6 0 0) ≡ decide rows
      unfolding row6
      by_lengths l = sym (past_params ∙ held (row6 (lengths n graph w k results bits words floats)) (row7 n roots ∷ row8 dimension query ∷ []) l)

      module _ (l : any_of holds (lengths n graph w k results bits words floats) ≡ false) where
        past_lengths : decide rows ≡ decide (row7 n roots ∷ row8 dimension query ∷ [])
        unfolding row6
        past_lengths = past_params ∙ left (row6 (lengths n graph w k results bits words floats)) (row7 n roots ∷ row8 dimension query ∷ []) l

        pub by_roots : {b : Answer} {r : Refusal} → decision_of b ≡ decide (row7 n roots ∷ []) → b ≡ Err r → decision_of b ≡ decide rows
        unfolding decision_of
        by_roots {b} {r} g h =
            let d : decide (row7 n roots ∷ []) ≡ refused (code_of r) = sym g ∙ ap decision_of h in
            ap decision_of h ∙ sym (past_lengths ∙ stops (row7 n roots) (row8 dimension query ∷ []) (code_of r) d)

        module _ {b : Answer} (g : decision_of b ≡ decide (row7 n roots ∷ [])) (h : b ≡ (Ok tt)) where
          past_roots : decide rows ≡ decide (row8 dimension query ∷ [])
          unfolding decision_of
          past_roots = past_lengths ∙ goes_on (row7 n roots) (row8 dimension query ∷ []) (sym g ∙ ap decision_of h)

          pub by_query : eqb query dimension ≡ false → refused (code 8 0 0) ≡ decide rows
          unfolding row8
          by_query t = sym (past_roots ∙ held (row8 dimension query) [] (ap not t))

          pub by_none : eqb query dimension ≡ true → passed ≡ decide rows
          unfolding row8 decide
          by_none t = sym (past_roots ∙ left (row8 dimension query) [] (ap not t))

-- ---- no row holds

good_root : (n : ℕ) (roots : List ℕ) (i : ℕ) → i < length roots → length roots ≤ first_bad_root n roots → bad_root n roots i ≡ false
unfolding first_bad_root
good_root n roots i l h = first-before (bad_root n roots) 0 (length roots) i (omega arith) (omega arith)

root_below : (n : ℕ) (roots : List ℕ) (i : ℕ) → bad_root n roots i ≡ false → get_or roots i 0 < n
unfolding bad_root
root_below n roots i e = leb-false n (get_or roots i 0) (neither (leb n (get_or roots i 0)) (has (get_or roots i 0) (take i roots)) e).0

root_new : (n : ℕ) (roots : List ℕ) (i : ℕ) → bad_root n roots i ≡ false → has (get_or roots i 0) (take i roots) ≡ false
unfolding bad_root
root_new n roots i e = (neither (leb n (get_or roots i 0)) (has (get_or roots i 0) (take i roots)) e).1

roots_of : (n : ℕ) (roots : List ℕ) → (row7 n roots).test ≡ false → Roots n roots
unfolding row7
roots_of n roots h = go (outside 1 64 (length roots)) (ltb (first_bad_root n roots) (length roots)) refl refl h
  where
    go : (a b : Bool) → outside 1 64 (length roots) ≡ a → ltb (first_bad_root n roots) (length roots) ≡ b → (a || b) ≡ false → Roots n roots
    go true b p q e = let z : ◌≡◌ {A = ℕ} 0 1 = cc in absurd (omega arith)
    go false true p q e = let z : ◌≡◌ {A = ℕ} 0 1 = cc in absurd (omega arith)
    go false false p q e =
        record {
          some = (within 1 64 (length roots) p).from;
          few = (within 1 64 (length roots) p).to;
          below = λ (i : ℕ) l. root_below n roots i (good_root n roots i l (ltb-false (first_bad_root n roots) (length roots) q));
          different = λ (i : ℕ) l. root_new n roots i (good_root n roots i l (ltb-false (first_bad_root n roots) (length roots) q));
        }

pub ready : (l : SearchLent) → decide (search_table l) ≡ passed → Ready l
unfolding search_table search_rows row1 row2 row3 row4 row6 row8
ready l h =
    let F = all_fail _ h in
    let ranges = none_hold _ F.1.1.1.0 in
    let lengths = none_hold _ F.1.1.1.1.0 in
    record {
      lanes_long = eqb-true _ _ (not-false _ F.1.1.0);
      query_long = eqb-true _ _ (not-false _ F.1.1.1.1.1.1.0);
      few_nodes = (within 2 4096 _ F.1.0).to;
      graph_long = eqb-true _ _ (not-false _ lengths.0);
      narrow = (within 1 64 _ ranges.0).to;
      roots = roots_of _ _ F.1.1.1.1.1.0;
      some = (within 1 64 _ ranges.1.0).from;
      few = (within 1 64 _ ranges.1.0).to;
      nodes_room = ltb-false _ _ lengths.1.0;
      bits_room = ltb-false _ _ lengths.1.1.0;
      words_room = ltb-false _ _ lengths.1.1.1.0;
      floats_room = ltb-false _ _ lengths.1.1.1.1.0;
    }
