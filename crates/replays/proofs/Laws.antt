-- One turn and the end of the loop over our numbers. Assumes nothing.
use Rattle.std.proofs.Common.{◌≡◌, ℕ, suc, ◌+◌, ◌-◌, ◌<◌, ◌≤◌, List, length, get_or, drop, Option, Some, None, refl, ap, add-one, arith, drop_of_length-le, drop-cons, eq-eqb, ne_eqb}
use Rattle.std.specs.Option.{option_map}
use Rattle.cases.specs.declared.Cursor.{Cursor}
use Rattle.cases.specs.declared.Read.{Read}
use Rattle.cases.specs.Text.{word_at, words_at}
use Rattle.cases.proofs.Laws.{words_turn}
use Rattle.replays.specs.Compare.{apart}

-- A place behind `i`
abbrev pub behind_place : ℕ → Option ℕ → Option ℕ
behind_place i o = option_map (λ k. i + k) o

pub from_start : (o : Option ℕ) → behind_place 0 o ≡ o
from_start None = refl
from_start (Some k) = ap Some (omega arith)

further : (i : ℕ) (o : Option ℕ) → behind_place (suc i) o ≡ behind_place i (option_map suc o)
further i None = refl
further i (Some k) = ap Some (omega arith)

module _ (ours : List ℕ) (i : ℕ) (text : List ℕ) (c : Cursor) where
  pub apart-end : length ours ≤ i → behind_place i (apart (drop i ours) (words_at (length ours - i) text c)) ≡ None
  unfolding apart
  apart-end h = rw (drop_of_length-le ours h)

  module _ (w : Read ℕ) (e : w ≡ word_at text c) (h : i < length ours) where
    pub apart-here : (w.value ≡ get_or ours i 0 → ⊥) → behind_place i (apart (drop i ours) (words_at (length ours - i) text c)) ≡ Some i
    unfolding apart
    apart-here differs =
        rw (drop-cons ours i 0 h, words_turn (length ours) i text c w e h, ne_eqb w.value (get_or ours i 0) differs) (ap Some (omega arith))

    pub apart_turn :
        w.value ≡ get_or ours i 0
        → behind_place (i + 1) (apart (drop (i + 1) ours) (words_at (length ours - (i + 1)) text w.cursor))
        ≡ behind_place i (apart (drop i ours) (words_at (length ours - i) text c))
    unfolding apart
    apart_turn same =
        rw (drop-cons ours i 0 h, words_turn (length ours) i text c w e h, eq-eqb w.value (get_or ours i 0) same, add-one) (further i _)
