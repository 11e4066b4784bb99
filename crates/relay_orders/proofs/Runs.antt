-- The calls of a whole relay, from what each call's contract says. Assumes nothing.
use Rattle.std.specs.Prelude.{Ok, Err}
use Rattle.std.proofs.Common.{◌≡◌, ℕ, suc, ◌+◌, ◌<◌, ◌≤◌, min, List, length, get_or, take, drop, replicate, sym, refl, ap, ◌∙◌, add-one, drop_of_length-le, drop-cons}
use lib.Ieee.{Float}
use Rattle.rules.specs.declared.Refusal.{Refusal}
use Rattle.rules.specs.declared.Refusal.TheVariants.{Dimension, Nodes, Lanes, Parameter, Threshold, Buffer, Root, Query, Job, Pair, Draws, State, Step}
use Rattle.rules.specs.Answers.{Answer}
use Rattle.rules.specs.Refusals.{code_of, said_of}
use Rattle.relays.specs.Places.{words_long, floats_long}
use Rattle.relay_opening.specs.Opening.{Opened}
use Rattle.relay_move.specs.Move.{Moved}
use Rattle.relay_close.specs.Close.{Closed}
use Rattle.relay_opening.specs.Opening as opening
use Rattle.relay_move.specs.Move as moving
use Rattle.relay_close.specs.Close as closing
use Rattle.relay_orders.specs.Run.{junk_word, junk_float, refused_in, sum, Ran, ran, relayed, of_open, of_move, of_close, opened_of, step, moved_by, closed_from, relayed_in, whole_of}

-- every refusal has a number
refused-one : (r : Refusal) → refused_in (code_of r) ≡ 1
unfolding refused_in code_of
refused-one Dimension = refl
refused-one Nodes = refl
refused-one Lanes = refl
refused-one Parameter = refl
refused-one Threshold = refl
refused-one Buffer = refl
refused-one (Root at) = refl
refused-one Query = refl
refused-one (Job at) = refl
refused-one (Pair i j) = refl
refused-one Draws = refl
refused-one State = refl
refused-one (Step job) = refl

pub refused_none : (a : Answer) → a ≡ (Ok tt) → 0 ≡ refused_in (said_of a)
unfolding refused_in said_of
refused_none a e = ap (λ (b : Answer). refused_in (said_of b)) (sym e)

pub refused-some : (a : Answer) (r : Refusal) → a ≡ Err r → 1 ≡ refused_in (said_of a)
unfolding said_of
refused-some a r e = sym (ap (λ (b : Answer). refused_in (said_of b)) e ∙ refused-one r)

module _ (n k : ℕ) (words : List ℕ) (floats : List Float) (count : ℕ) where
  pub step_made :
      (job : ℕ) (r : Answer) (words' : List ℕ) (floats' : List Float) (one count' : ℕ)
      → Moved (moving.lent n k job words floats) r words' floats' → one ≡ refused_in (said_of r) → count' ≡ sum count one
      → ran words' floats' count' ≡ step n k job (ran words floats count)
  unfolding step
  step_made job r words' floats' one count' m e f =
      ap (ran words' floats') (f ∙ ap (sum count) e) ∙ ap (of_move count) m.whole

  module _ (order : List ℕ) (i : ℕ) where
    pub moved_turn :
        (s : Ran) (job : ℕ) → i < length order → job ≡ get_or order i 0 → s ≡ step n k job (ran words floats count)
        → moved_by n k (drop (i + 1) order) s ≡ moved_by n k (drop i order) (ran words floats count)
    unfolding moved_by
    moved_turn s job h e f =
        rw (drop-cons order i 0 h, add-one i) (ap (moved_by n k (drop (suc i) order)) (f ∙ ap (λ (j : ℕ). step n k j (ran words floats count)) e))

    pub moved-end : length order ≤ i → ran words floats count ≡ moved_by n k (drop i order) (ran words floats count)
    unfolding moved_by
    moved-end h = rw (drop_of_length-le order h)

  pub closed_made :
      (opening : ℕ) (nodes : List ℕ) (distances : List Float) (reports : List ℕ) (r : Answer) (nodes' : List ℕ) (distances' : List Float)
      (reports' : List ℕ) (one rest whole : ℕ)
      → Closed (closing.lent n k words floats nodes distances reports) r nodes' distances' reports' → one ≡ refused_in (said_of r)
      → rest ≡ sum count one → whole ≡ sum opening rest
      → relayed whole nodes' distances' reports' ≡ closed_from n k opening (ran words floats count) nodes distances reports
  unfolding closed_from
  closed_made opening nodes distances reports r nodes' distances' reports' one rest whole m e f g =
      ap (λ (x : ℕ). relayed x nodes' distances' reports') (g ∙ ap (sum opening) (f ∙ ap (sum count) e)) ∙ ap (of_close opening count) m.whole

module _ (n k : ℕ) (lanes : List Float) (jobs : List ℕ) (nodes : List ℕ) (distances : List Float) where
  module _ (words : List ℕ) (floats : List Float) where
    pub opened_made :
        (r : Answer) (words' : List ℕ) (floats' : List Float) (su : List ℕ) (sf : List Float) (one : ℕ)
        → Opened (opening.lent 1 n lanes k nodes distances jobs words floats (replicate 8192 junk_word) (replicate 8192 junk_float)) r words' floats' su sf
        → one ≡ refused_in (said_of r) → ran words' floats' one ≡ opened_of n k lanes nodes distances jobs words floats
    unfolding opened_of
    opened_made r words' floats' su sf one m e = ap (ran words' floats') e ∙ ap of_open m.whole

    pub relay_made :
        (order reports words₁ words₂ : List ℕ) (floats₁ floats₂ : List Float) (one two : ℕ)
        → ran words₁ floats₁ one ≡ opened_of n k lanes nodes distances jobs words floats
        → ran words₂ floats₂ two ≡ moved_by n k order (ran words₁ floats₁ 0)
        → closed_from n k one (ran words₂ floats₂ two) nodes distances reports ≡ relayed_in n k words floats lanes jobs order nodes distances reports
    unfolding relayed_in
    relay_made order reports words₁ words₂ floats₁ floats₂ one two e f =
        ap (λ (s : Ran). closed_from n k one s nodes distances reports) f
        ∙ ap (λ (o : Ran). closed_from n k o.refused (moved_by n k order (ran o.words o.floats 0)) nodes distances reports) e

  pub whole_made :
      (order reports : List ℕ) (a b : ℕ) → a ≡ min (words_long n k) 2048 → b ≡ min (floats_long n k) 1024
      → relayed_in n k (take a (replicate 2048 junk_word)) (take b (replicate 1024 junk_float)) lanes jobs order nodes distances reports
      ≡ whole_of n k lanes jobs order nodes distances reports
  unfolding whole_of
  whole_made order reports a b e f =
      let words : ℕ → List ℕ = λ (x : ℕ). take x (replicate 2048 junk_word) in
      let floats : ℕ → List Float = λ (x : ℕ). take x (replicate 1024 junk_float) in
      ap (λ (x : ℕ). relayed_in n k (words x) (floats b) lanes jobs order nodes distances reports) e
      ∙ ap (λ (x : ℕ). relayed_in n k (words (min (words_long n k) 2048)) (floats x) lanes jobs order nodes distances reports) f
