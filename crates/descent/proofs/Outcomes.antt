-- What a begin leaves: refused, or begun. Assumes nothing.
use mathlib.Core.Path.{◌≡◌, sym, ap, ◌∙◌}
use mathlib.Core.List.{List, [], ◌∷◌}
use Prim.Native.Nat.{ℕ, ◌*◌, ◌≤◌, ◌<◌}
use borrow.Author.Tests.{lt-ltb, le-ltb}
use lib.ListN.{length, replicate}
use lib.Ieee.{Float}
use Rattle.std.specs.Prelude.{Ok, Err}
use Rattle.rules.specs.Answers.{Answer}
use Rattle.rules.specs.declared.Refusal.{Refusal}
use Rattle.rules.specs.declared.Refusal.TheVariants.{Draws}
use Rattle.rules.specs.Distance.{nodes_apart, zero32}
use Rattle.rules.specs.Refusals.{Row, said_of, code_of, decide, decision_of, row11}
use Rattle.rules.specs.Calls.{descent_rows, begin_rows}
use Rattle.rules.specs.Descent.{begun}
use Rattle.rules.specs.Places.{list_floats}
use Rattle.rules.specs.DescentPlaces.{descent_state}
use Rattle.rules.specs.DescentCall.{DescentLent, descent_kept, descent_written, begin_table, BeginOutcome, begin_obeys, begin_rule}
use Rattle.rules.proofs.Tables.{held}
use Rattle.rules.proofs.Tables as tables
use Rattle.rules.proofs.Answers.{same_answer}
use Rattle.table.proofs.Rows.{by_answer, past_answer}
use Rattle.begins.specs.Begins.{Begun}
use Rattle.descent.specs.Descent.{left, BegunAll}
use Rattle.descent.proofs.Table.{rows, Ready, ready}

module _ (l : DescentLent) where
  abbrev pub rows_of : List Row
  rows_of = rows l.dimension l.n (length l.lanes) l.k l.s (length l.state_u) (length l.state_f) (length l.scratch_u) (length l.scratch_f) (nodes_apart l.lanes l.dimension)

  abbrev draws : Row
  draws = row11 (2 * l.n * l.s) (length l.draws)

  module _ {a : Answer} (e : decision_of a ≡ decide rows_of) where
    pub begin_refused : {r : Refusal} → a ≡ Err r → BegunAll l a l.state_u l.state_f l.scratch_u l.scratch_f
    unfolding begin_rule begin_table begin_rows descent_rows begin_obeys descent_kept said_of decision_of
    begin_refused {r} f = rw f (record { whole = ap (begin_obeys l) (sym (ap decision_of f) ∙ by_answer rows_of (draws ∷ []) e f) })

    module _ (f : a ≡ (Ok tt)) where
      pub begin_ready : Ready l.dimension l.n (length l.lanes) l.k l.s (length l.state_u) (length l.state_f) (length l.scratch_u) (length l.scratch_f)
      unfolding decision_of
      begin_ready = ready (nodes_apart l.lanes l.dimension) (sym e ∙ ap decision_of f)

      past : decide (begin_table l) ≡ decide (draws ∷ [])
      unfolding begin_table begin_rows descent_rows
      past = past_answer rows_of (draws ∷ []) e f

      pub begin_few : length l.draws < 2 * l.n * l.s → BegunAll l (Err Draws) l.state_u l.state_f l.scratch_u l.scratch_f
      unfolding begin_rule begin_obeys descent_kept said_of code_of row11
      begin_few h = record { whole = sym (ap (begin_obeys l) (past ∙ held draws [] (lt-ltb (length l.draws) (2 * l.n * l.s) h))) }

      pub begin_done : {us su : List ℕ} {fs sf : List Float} {x y : ℕ} → 2 * l.n * l.s ≤ length l.draws → Begun l.n l.k l.s l.draws us fs → su ≡ replicate x 0 → x ≡ length l.scratch_u → sf ≡ replicate y zero32 → y ≡ length l.scratch_f
          → BegunAll l (Ok tt) us fs su sf
      unfolding begin_rule begin_obeys descent_written said_of row11 decide
      begin_done {us} {su} {fs} {sf} {x} {y} h b p p' q q' =
          record {
            whole =
                ap (λ (ws : List ℕ). outcome ws fs su sf) b.words
                ∙ ap (λ (gs : List Float). outcome (descent_state l.n (begun l.draws l.n l.k l.s)) gs su sf) b.floats
                ∙ ap (λ (xs : List ℕ). outcome (descent_state l.n (begun l.draws l.n l.k l.s)) (list_floats (begun l.draws l.n l.k l.s).lists) xs sf) (p ∙ ap (λ (m : ℕ). replicate m 0) p')
                ∙ ap (outcome (descent_state l.n (begun l.draws l.n l.k l.s)) (list_floats (begun l.draws l.n l.k l.s).lists) (replicate (length l.scratch_u) 0)) (q ∙ ap (λ (m : ℕ). replicate m zero32) q')
                ∙ sym (ap (begin_obeys l) (past ∙ tables.left draws [] (le-ltb (length l.draws) (2 * l.n * l.s) h)));
          }
        where
          outcome : List ℕ → List Float → List ℕ → List Float → BeginOutcome
          outcome ws gs xs ys = record { said = said_of (Ok tt); left = left ws gs xs ys }

-- ---- "show that any two outcomes it allows are equal"

pub record Same (A : Type 0) (a b : A) (us us' : List ℕ) (fs fs' : List Float) (su su' : List ℕ) (sf sf' : List Float) : Type 0 where
  pub answer : a ≡ b
  pub state_u : us ≡ us'
  pub state_f : fs ≡ fs'
  pub scratch_u : su ≡ su'
  pub scratch_f : sf ≡ sf'

pub two_outcomes : (l : DescentLent) (a b : Answer) (us us' : List ℕ) (fs fs' : List Float) (su su' : List ℕ) (sf sf' : List Float)
    → BegunAll l a us fs su sf → BegunAll l b us' fs' su' sf' → Same Answer a b us us' fs fs' su su' sf sf'
two_outcomes l a b us us' fs fs' su su' sf sf' p q =
    let e = p.whole ∙ sym q.whole in
    record {
      answer = same_answer a b (ap (λ (o : BeginOutcome). o.said) e);
      state_u = ap (λ (o : BeginOutcome). o.left.state_u) e;
      state_f = ap (λ (o : BeginOutcome). o.left.state_f) e;
      scratch_u = ap (λ (o : BeginOutcome). o.left.scratch_u) e;
      scratch_f = ap (λ (o : BeginOutcome). o.left.scratch_f) e;
    }
