-- The whole call of a close: what a refusal and a success leave, and that two outcomes of one call are equal. Assumes nothing.
use mathlib.Core.Path.{◌≡◌, sym, ap, ◌∙◌}
use mathlib.Core.List.{List}
use Prim.Native.Nat.{ℕ}
use lib.ListN.{length}
use lib.Ieee.{Float}
use Rattle.std.specs.Prelude.{Ok, Err}
use Rattle.rules.specs.Answers.{Answer}
use Rattle.rules.specs.declared.Refusal.{Refusal}
use Rattle.rules.specs.Loops.{over}
use Rattle.rules.specs.Refusals.{passed, decide, decision_of, said_of}
use Rattle.rules.specs.Relay.{reports_of}
use Rattle.rules.specs.RelayCall.{CloseLent, CloseOutcome, closing, close_table, close_obeys, close_rule}
use Rattle.rules.proofs.Answers.{same_answer}
use Rattle.relay_close.specs.Close.{ListsWritten, close_left, Closed}

module _ (l : CloseLent) where
  pub closed-refused : {a : Answer} {r : Refusal} → decision_of a ≡ decide (close_table l) → a ≡ Err r → Closed l (Err r) l.nodes l.distances l.reports
  unfolding close_rule close_obeys said_of decision_of
  closed-refused {a} {r} e f = record { whole = ap (close_obeys l) (sym (ap decision_of f) ∙ e) }

  pub no_row : {a : Answer} → decision_of a ≡ decide (close_table l) → a ≡ (Ok tt) → decide (close_table l) ≡ passed
  unfolding decision_of
  no_row e f = sym e ∙ ap decision_of f

  pub closed-done : {ns : List ℕ} {ds : List Float} {rs : List ℕ} → decide (close_table l) ≡ passed → ListsWritten (closing l).lists ns ds
      → rs ≡ over (length (reports_of (closing l).jobs)) (reports_of (closing l).jobs) l.reports → Closed l (Ok tt) ns ds rs
  unfolding close_rule close_obeys said_of
  closed-done {ns} {ds} {rs} e w f =
      let a = w.nodes_are in
      let b = w.distances_are in
      record { whole = rw (e, a, b, f) }

-- ---- "show that any two outcomes it allows are equal"

pub record Same (a b : Answer) (ns ns' : List ℕ) (ds ds' : List Float) (rs rs' : List ℕ) : Type 0 where
  pub answer_same : a ≡ b
  pub nodes : ns ≡ ns'
  pub distances : ds ≡ ds'
  pub reports : rs ≡ rs'

pub two_outcomes : (l : CloseLent) (a b : Answer) (ns ns' : List ℕ) (ds ds' : List Float) (rs rs' : List ℕ) → Closed l a ns ds rs → Closed l b ns' ds' rs' → Same a b ns ns' ds ds' rs rs'
two_outcomes l a b ns ns' ds ds' rs rs' p q =
    let e : close_left a ns ds rs ≡ close_left b ns' ds' rs' = p.whole ∙ sym q.whole in
    record {
      answer_same = same_answer a b (ap (λ (o : CloseOutcome). o.said) e);
      nodes = ap (λ (o : CloseOutcome). o.nodes) e;
      distances = ap (λ (o : CloseOutcome). o.distances) e;
      reports = ap (λ (o : CloseOutcome). o.reports) e;
    }
