-- The passes over a well-formed state: what they start from, and what they leave. Assumes nothing.
use mathlib.Core.Path.{◌≡◌, refl, sym, ap, ◌∙◌, subst}
use mathlib.Core.Bool.{true}
use mathlib.Core.List.{List, ◌++◌}
use Prim.Native.Nat.{ℕ, ◌*◌, ◌≤◌}
use native.Mathlib.Omega.{arith}
use lib.ListN.{length-append, length, take, drop, length-drop}
use lib.Seq.{length-take-le, take_at}
use lib.Ieee.{Float}
use borrow.Rule.Slice.PartMut.{mid_of}
use Rattle.rules.specs.Build.{Between}
use Rattle.rules.specs.Offers.{lists_formed}
use Rattle.rules.specs.Descent.{Context, meet_all}
use Rattle.rules.specs.Places.{lists_in}
use Rattle.rules.specs.DescentPlaces.{descent_in}
use Rattle.rules.proofs.Tests.{both}
use Rattle.zeros.specs.Zeros.{all_below}
use Rattle.meets.specs.Meets.{marks_at, Game, Holds, Does}
use Rattle.passes.specs.Passes.{contexts_in, ManyContexted}
use Rattle.descent_state.specs.State.{Sized}
use Rattle.descent_state.proofs.Contexts.{list_test}
use Rattle.descent_state.proofs.Whole.{whole_is}
use Rattle.descent_kept.proofs.Back.{pairs_in}
use Rattle.descent_kept.proofs.Tested.{Tested, tested}
use Rattle.iterates.specs.Iterates.{Fit, unmet, MetIn}
use Rattle.iterates.proofs.Contexts.{contexts_copied, contexts_walkable}

module _ {dimension n k : ℕ} {lanes : List Float} {us : List ℕ} {fs : List Float} (game : Game dimension n k lanes us fs) (good : Fit n k us fs) where
  sized : Sized n k us fs
  sized = record { nodes = game.few; few = game.narrow; words = game.words; floats = game.floats }

  pub read : Tested n k us fs good.floats game.words game.floats
  read = tested n k us fs good.floats game.words game.floats good.formed

  lists_good : all_below (list_test n (n * k) us) (4 * n) ≡ true
  lists_good =
      let w = sym (whole_is sized good.words) ∙ good.formed in
      (both (all_below (list_test n (n * k) us) (4 * n)) _ (both (lists_formed n (lists_in n k us fs)) _ w).1).0

  -- before any pair meets
  pub unmet-holds : Holds n k (unmet (descent_in n k us fs)) us fs 0
  unfolding descent_in
  unmet-holds =
      record {
        lists = refl;
        marks = record { words = ap (drop (marks_at n k)) read.words ∙ pairs_in n k (descent_in n k us fs) read.formed.fitting; long = read.formed.fitting.pairs };
        counted = refl;
      }

  module _ (ws : List ℕ) (room : 512 * n ≤ length ws) {cs : List ℕ} {a : ℕ} (ea : a ≡ 260 * n) (copied : cs ≡ mid_of (n * k) a us) where
    abbrev ws' : List ℕ
    ws' = cs ++ drop (260 * n) ws

    cs_is : cs ≡ take (260 * n) (drop (n * k) us)
    cs_is = copied ∙ rw ea refl

    cs_long : length cs ≡ 260 * n
    cs_long =
        let w = game.words in
        let d = length-drop (n * k) us in
        ap length cs_is ∙ length-take-le (260 * n) (drop (n * k) us) (omega arith)

    kept : length ws' ≡ length ws
    kept = let l = cs_long in simp (length-append, length-drop) (omega arith)

    front : take (260 * n) ws' ≡ take (260 * n) (drop (n * k) us)
    front = take_at cs (drop (260 * n) ws) (260 * n) cs_long ∙ cs_is

    fits : 260 * n ≤ length ws'
    fits = let l = kept in omega arith

    pub walkable_copy : ManyContexted n ws'
    walkable_copy = contexts_walkable n (n * k) us ws' front fits lists_good

    pub met_in : (d : Between) {us' : List ℕ} {fs' : List Float} {cost : ℕ} → Does n k (n * 28672) (meet_all d n k (contexts_in n ws')) us fs 0 us' fs' cost
        → MetIn d n k us fs ws us' fs' ws' cost
    unfolding descent_in
    met_in d {us'} {fs'} {cost} does =
        record {
          held = subst (λ (cs : List Context). Holds n k (meet_all d n k cs (unmet (descent_in n k us fs))) us' fs' cost) (contexts_copied n (n * k) us ws' front fits lists_good) (does.held (unmet (descent_in n k us fs)) unmet-holds);
          words_long = does.words_long;
          floats_long = does.floats_long;
          scratch_long = kept;
        }
