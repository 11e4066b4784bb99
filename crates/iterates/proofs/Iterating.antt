-- From the meetings to the renewal: what a state holds when all pairs have met, and the whole iteration. Assumes nothing.
use mathlib.Core.Path.{◌≡◌, sym, ap, ◌∙◌, subst}
use mathlib.Core.List.{List, [], ◌++◌}
use Prim.Native.Nat.{ℕ, ◌+◌, ◌*◌, ◌≤◌, ◌<◌}
use native.Mathlib.Omega.{arith}
use lib.ListN.{length, take, drop, take-append-drop}
use lib.Seq.{take-take, take_all, drop-drop}
use lib.Ieee.{Float}
use Rattle.rules.specs.declared.Neighbor.{Neighbor}
use Rattle.rules.specs.Loops.{part}
use Rattle.rules.specs.Lists.{entries, nodes_of}
use Rattle.rules.specs.Distance.{between}
use Rattle.rules.specs.Build.{Between}
use Rattle.rules.specs.Descent.{Met, list_at, renewed, iterated}
use Rattle.rules.specs.Places.{list_words, list_floats, lists_in}
use Rattle.rules.specs.DescentPlaces.{context_words, descent_state, descent_in}
use Rattle.rules.proofs.Loops.{get_d_ones}
use Rattle.neighbor.proofs.Bits.{holdable_between}
use Rattle.metrics.proofs.Fitness.{between-fit}
use Rattle.lists.specs.All.{All}
use Rattle.lists.proofs.Slices.{nodes_of-entries}
use Rattle.buffers.specs.Area.{area}
use Rattle.visits.specs.Marks as visits
use Rattle.meets.specs.Meets.{marks_at, Game}
use Rattle.renews.specs.Renews as renews
use Rattle.renewals.specs.Renewals.{Ready, Held, StateRenewed}
use Rattle.descent_state.proofs.Whole.{length_part, words-again, floats-again}
use Rattle.descent_kept.proofs.Contexts.{none_above}
use Rattle.descent_kept.proofs.Kept.{all-met}
use Rattle.descent_kept.proofs.Lists as kept
use Rattle.iterates.specs.Iterates.{Fit, all_met, MetIn, IteratedIn}
use Rattle.iterates.proofs.Meeting.{read}

module _ {dimension n k : ℕ} {lanes : List Float} {us : List ℕ} {fs : List Float} (game : Game dimension n k lanes us fs) (good : Fit n k us fs) where
  abbrev d : Between
  d = between lanes dimension

  abbrev m : Met
  m = all_met (between lanes dimension) n k us fs

  met-lists : kept.Lists n k (all_met (between lanes dimension) n k us fs).lists
  met-lists =
      (all-met d n k game.some (holdable_between lanes dimension) (between-fit lanes dimension) (descent_in n k us fs) (read game good).formed).lists

  module _ {ws us' ws' : List ℕ} {fs' : List Float} {cost : ℕ} (M : MetIn (between lanes dimension) n k us fs ws us' fs' ws' cost) where
    words_long : length us' ≡ n * k + 260 * n + visits.marks n
    words_long = M.words_long ∙ game.words

    floats_long : length fs' ≡ n * k
    floats_long = M.floats_long ∙ game.floats

    list-is : (i : ℕ) → i < n → list_at m.lists i ≡ entries k (part k i us') (part k i fs')
    unfolding lists_in
    list-is i h = ap (λ (ls : List (List Neighbor)). list_at ls i) (sym M.held.lists) ∙ get_d_ones (λ (j : ℕ). entries k (part k j us') (part k j fs')) n i [] h

    part-whole : (i : ℕ) → take k (part k i us') ≡ part k i us'
    unfolding part
    part-whole i = take-take k k (drop (i * k) us') (omega arith)

    nodes_are : (i : ℕ) → i < n → nodes_of (list_at m.lists i) ≡ part k i us'
    nodes_are i h =
        let l = floats_long in
        ap nodes_of (list-is i h) ∙ nodes_of-entries k (part k i us') (part k i fs') (length_part k i n fs' h (omega arith)) ∙ part-whole i

    ready : Ready n k (all_met (between lanes dimension) n k us fs) us'
    ready =
        record {
          source =
              record {
                marks = M.held.marks;
                nodes = nodes_are;
                below = λ i h. let some : 0 < n = omega arith in subst (All (λ (v : ℕ). v ≤ n)) (nodes_are i h) (none_above n some (list_at m.lists i) (met-lists.kept i h));
              };
          lists = met-lists;
        }

    pub held : Held n k us'
    held = record { met = m; ready = ready }

    pub lent-on : renews.Lists n k us'
    lent-on = record { few = game.few; some = game.some; narrow = game.narrow; words = words_long }

    -- ---- the whole

    module _ (draws : List ℕ) (s : ℕ) {us'' ws'' : List ℕ} {new : ℕ} (R : StateRenewed draws n k s us' us'' ws' ws'' new) where
      words_are : us'' ≡ descent_state n (renewed draws n s m).descent
      unfolding descent_state renewed
      words_are =
          let w = words_long in
          let f = floats_long in
          let tail : drop (n * k) us'' ≡ area (n * k) (260 * n) us'' ++ drop (marks_at n k) us'' =
          sym (take-append-drop (260 * n) (drop (n * k) us'')) ∙ ap (λ (l : List ℕ). area (n * k) (260 * n) us'' ++ l) (drop-drop (260 * n) (n * k) us'') in
          let front : take (n * k) us'' ≡ list_words m.lists =
          R.front ∙ sym (words-again n k us' fs' (omega arith) (omega arith)) ∙ ap list_words M.held.lists in
          sym (take-append-drop (n * k) us'')
          ∙ ap (λ (l : List ℕ). l ++ drop (n * k) us'') front
          ∙ ap (λ (l : List ℕ). list_words m.lists ++ l) (tail ∙ ap (λ (l : List ℕ). l ++ drop (marks_at n k) us'') (R.contexts m ready))
          ∙ ap (λ (l : List ℕ). list_words m.lists ++ (context_words (renewed draws n s m).descent.contexts ++ l)) (R.marks m ready)

      floats_are : fs' ≡ list_floats m.lists
      floats_are =
          let w = words_long in
          let f = floats_long in
          sym (take_all (n * k) fs' (omega arith)) ∙ sym (floats-again n k us' fs' (omega arith) (omega arith)) ∙ ap list_floats M.held.lists

      pub iterated_in_lem : IteratedIn (between lanes dimension) draws n k s us fs ws us'' fs' ws'' cost new
      unfolding iterated renewed
      iterated_in_lem =
          record {
            words = words_are;
            floats = floats_are;
            counted = M.held.counted;
            totalled = R.totalled m ready;
            scratch_long = R.scratch_long ∙ M.scratch_long;
          }
