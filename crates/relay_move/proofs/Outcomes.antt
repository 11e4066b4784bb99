-- The whole call of a move: what a refusal and a step leave, and that two outcomes of one call are equal. Assumes nothing.
use mathlib.Core.Path.{◌≡◌, sym, ap, ◌∙◌}
use mathlib.Core.List.{List}
use lib.Ieee.{Float}
use Rattle.std.specs.Prelude.{Ok, Err}
use Rattle.rules.specs.Answers.{Answer}
use Rattle.rules.specs.declared.Refusal.{Refusal}
use Prim.Native.Nat.{ℕ}
use Rattle.rules.specs.Refusals.{passed, decide, decision_of, said_of}
use Rattle.rules.specs.RelayCall.{MoveLent, MoveOutcome, move_table, move_obeys, move_rule}
use Rattle.rules.proofs.Answers.{same_answer}
use Rattle.relay_move.specs.Moves.{Stepped}
use Rattle.relay_move.specs.Move.{move_left, Moved}

module _ (l : MoveLent) where
  pub moved-refused : {a : Answer} {r : Refusal} → decision_of a ≡ decide (move_table l) → a ≡ Err r → Moved l (Err r) l.state_u l.state_f
  unfolding move_rule move_obeys said_of decision_of
  moved-refused {a} {r} e f = record { whole = ap (move_obeys l) (sym (ap decision_of f) ∙ e) }

  pub no_row : {a : Answer} → decision_of a ≡ decide (move_table l) → a ≡ (Ok tt) → decide (move_table l) ≡ passed
  unfolding decision_of
  no_row e f = sym e ∙ ap decision_of f

  pub moved-done : {us : List ℕ} {fs : List Float} → decide (move_table l) ≡ passed → Stepped l.n l.k l.state_u l.state_f l.job us fs → Moved l (Ok tt) us fs
  unfolding move_rule move_obeys said_of
  moved-done {us} {fs} e s =
      let a = s.words in
      let b = s.floats in
      record { whole = rw (e, a, b) }

-- ---- "show that any two outcomes it allows are equal"

pub record Same (a b : Answer) (us us' : List ℕ) (fs fs' : List Float) : Type 0 where
  pub answer : a ≡ b
  pub state_u : us ≡ us'
  pub state_f : fs ≡ fs'

pub two_outcomes : (l : MoveLent) (a b : Answer) (us us' : List ℕ) (fs fs' : List Float) → Moved l a us fs → Moved l b us' fs' → Same a b us us' fs fs'
two_outcomes l a b us us' fs fs' p q =
    let e : move_left a us fs ≡ move_left b us' fs' = p.whole ∙ sym q.whole in
    record {
      answer = same_answer a b (ap (λ (o : MoveOutcome). o.said) e);
      state_u = ap (λ (o : MoveOutcome). o.state_u) e;
      state_f = ap (λ (o : MoveOutcome). o.state_f) e;
    }
