-- Pairs unvisited, node by node. Assumes nothing.
use mathlib.Core.Path.{◌≡◌, refl, sym, ap, ◌∙◌, subst}
use mathlib.Core.Bool.{Bool}
use mathlib.Core.List.{List, [], ◌∷◌}
use Prim.Native.Nat.{ℕ, ◌+◌, ◌<◌}
use native.Mathlib.Numerals.{add-one}
use lib.ListN.{length, take, get_or}
use lib.Seq.{take-suc}
use Rattle.rules.specs.Loops.{turns, through}
use Rattle.rules.specs.Descent.{unvisit}
use Rattle.rules.proofs.Loops.{turns_turn, through-append}
use Rattle.visits.specs.Marks.{Holds, Marked}
use Rattle.unvisits.specs.Unvisits.{new_in, unvisit_each}

-- ---- one change of marks after another

pub marked_as : {base n : ℕ} {f g : List Bool → List Bool} {us us' : List ℕ} → ((flags : List Bool) → f flags ≡ g flags) → Marked base n f us us' → Marked base n g us us'
marked_as {base} {n} {f} {g} {us} {us'} e m =
    record { marked = λ flags h. subst (λ (l : List Bool). Holds base n l us') (e flags) (m.marked flags h); front = m.front; long = m.long }

pub marked_then : {base n : ℕ} {f g : List Bool → List Bool} {us us' us'' : List ℕ} → Marked base n f us us' → Marked base n g us' us'' → Marked base n (λ flags. g (f flags)) us us''
marked_then {base} {n} {f} {g} a b =
    record { marked = λ flags h. b.marked (f flags) (a.marked flags h); front = b.front ∙ a.front; long = b.long ∙ a.long }

pub marked_none : {base n : ℕ} {f : List Bool → List Bool} (us : List ℕ) → ((flags : List Bool) → flags ≡ f flags) → Marked base n f us us
marked_none {base} {n} {f} us e = record { marked = λ flags h. subst (λ (l : List Bool). Holds base n l us) (e flags) h; front = refl; long = refl }

-- the first j of a list are unvisited
module _ (base n i : ℕ) (vs : List ℕ) where
  abbrev pub Row : List ℕ → List ℕ → ℕ → Type 0
  Row us us' j = Marked base n (through (unvisit n i) (take j vs)) us us'

  pub row_none : (us : List ℕ) → Row us us 0
  unfolding through
  row_none us = marked_none us (λ flags. refl)

  pub row_more : {us us' us'' : List ℕ} {j : ℕ} → Row us us' j → Marked base n (unvisit n i (get_or vs j 0)) us' us'' → j < length vs → Row us us'' (j + 1)
  unfolding through
  row_more {us} {us'} {us''} {j} a b h =
      marked_as (λ flags. sym (through-append (unvisit n i) (take j vs) (get_or vs j 0 ∷ []) flags) ∙ ap (λ (l : List ℕ). through (unvisit n i) l flags) (sym (take-suc vs j 0 h) ∙ ap (λ (m : ℕ). take m vs) (sym (add-one j)))) (marked_then a b)

-- the pairs of the first i nodes are unvisited
module _ (base n : ℕ) (contexts : List ℕ) where
  pub each_none : (us : List ℕ) → Marked base n (unvisit_each n contexts 0) us us
  unfolding unvisit_each turns
  each_none us = marked_none us (λ flags. refl)

  pub each_more : {us us' us'' : List ℕ} (i : ℕ) {vs : List ℕ} → Marked base n (unvisit_each n contexts i) us us' → vs ≡ new_in contexts i → Marked base n (through (unvisit n i) vs) us' us''
      → Marked base n (unvisit_each n contexts (i + 1)) us us''
  unfolding unvisit_each
  each_more i a e b =
      marked_as (λ flags. ap (λ (l : List ℕ). through (unvisit n i) l (turns f i flags)) e ∙ turns_turn f i flags) (marked_then a b)
    where
      f : ℕ → List Bool → List Bool
      f j v = through (unvisit n j) (new_in contexts j) v
