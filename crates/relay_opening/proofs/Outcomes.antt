-- What an opening leaves: refused, or opened. Assumes nothing.
use mathlib.Core.Path.{◌≡◌, sym, ap, ◌∙◌}
use mathlib.Core.List.{List}
use Prim.Native.Nat.{ℕ}
use lib.ListN.{length, replicate}
use lib.Ieee.{Float}
use Rattle.std.specs.Prelude.{Ok, Err}
use Rattle.rules.specs.Answers.{Answer}
use Rattle.rules.specs.declared.Refusal.{Refusal}
use Rattle.rules.specs.Distance.{nodes_apart, zero32}
use Rattle.rules.specs.Refusals.{passed, decide, decision_of, said_of}
use Rattle.rules.specs.Offers.{lists_formed}
use Rattle.rules.specs.Places.{lists_in}
use Rattle.rules.specs.RelayCall.{OpenLent, OpenOutcome, open_table, opened_on, open_obeys, open_rule}
use Rattle.rules.proofs.Answers.{same_answer}
use Rattle.relay_open.specs.Open.{StateWritten}
use Rattle.relay_opening.specs.Opening.{open_left, Opened}
use Rattle.relay_opening.proofs.Table.{Ready, ready}

module _ (l : OpenLent) where
  pub open_refused : {a : Answer} {r : Refusal} → decision_of a ≡ decide (open_table l) → a ≡ Err r → Opened l (Err r) l.state_u l.state_f l.scratch_u l.scratch_f
  unfolding open_rule open_obeys said_of decision_of
  open_refused {a} {r} e f = record { whole = ap (open_obeys l) (sym (ap decision_of f) ∙ e) }

  pub no_row : {a : Answer} → decision_of a ≡ decide (open_table l) → a ≡ (Ok tt) → decide (open_table l) ≡ passed
  unfolding decision_of
  no_row e f = sym e ∙ ap decision_of f

  pub open_ready : decide (open_table l) ≡ passed → Ready l.dimension l.n (length l.lanes) l.k (length l.nodes) (length l.distances) l.jobs (length l.state_u) (length l.state_f)
  unfolding open_table
  open_ready h = ready (length l.jobs) (length l.scratch_u) (length l.scratch_f) (nodes_apart l.lanes l.dimension) (lists_formed l.n (lists_in l.n l.k l.nodes l.distances)) h

  pub open_done : {us su : List ℕ} {fs sf : List Float} → decide (open_table l) ≡ passed → StateWritten l.k (opened_on l) us fs → su ≡ replicate (length l.scratch_u) 0 → sf ≡ replicate (length l.scratch_f) zero32
      → Opened l (Ok tt) us fs su sf
  unfolding open_rule open_obeys said_of
  open_done {us} {su} {fs} {sf} e s p q =
      let a = s.words_are in
      let b = s.floats_are in
      record { whole = rw (e, a, b, p, q) }

-- ---- "show that any two outcomes it allows are equal"

pub record Same (a b : Answer) (us us' : List ℕ) (fs fs' : List Float) (su su' : List ℕ) (sf sf' : List Float) : Type 0 where
  pub answer : a ≡ b
  pub state_u : us ≡ us'
  pub state_f : fs ≡ fs'
  pub scratch_u : su ≡ su'
  pub scratch_f : sf ≡ sf'

pub two_outcomes : (l : OpenLent) (a b : Answer) (us us' : List ℕ) (fs fs' : List Float) (su su' : List ℕ) (sf sf' : List Float)
    → Opened l a us fs su sf → Opened l b us' fs' su' sf' → Same a b us us' fs fs' su su' sf sf'
two_outcomes l a b us us' fs fs' su su' sf sf' p q =
    let e : open_left a us fs su sf ≡ open_left b us' fs' su' sf' = p.whole ∙ sym q.whole in
    record {
      answer = same_answer a b (ap (λ (o : OpenOutcome). o.said) e);
      state_u = ap (λ (o : OpenOutcome). o.state_u) e;
      state_f = ap (λ (o : OpenOutcome). o.state_f) e;
      scratch_u = ap (λ (o : OpenOutcome). o.scratch_u) e;
      scratch_f = ap (λ (o : OpenOutcome). o.scratch_f) e;
    }
