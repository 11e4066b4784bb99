-- What became of the lent places. Assumes nothing.
use Rattle.std.specs.Prelude.{ℕ, cond, not, List, nat_eq, Float}
use Rattle.states.specs.Same.{alike, same_bits}
use Rattle.refusals.specs.declared.Left.{Left}
use Rattle.refusals.specs.declared.Left.TheVariants.{Untouched, Written}
use Rattle.refusals.specs.Junk.{words_stand, left_of}

-- A state beside its twin, which is as it was before a move
unfoldable pub state_left : List ℕ → List Float → List ℕ → List Float → Left
state_left words floats twin_words twin_floats =
    cond (not (alike nat_eq words twin_words)) Written
    (cond (not (alike same_bits floats twin_floats)) Written Untouched)

-- What the first place of the reports holds before a close
abbrev pub junk_report : ℕ
junk_report = 0xCD000000

-- A refused close: where the reports do not stand as they were, the lists are not told.
unfoldable pub refused_left : List ℕ → List Float → List ℕ → Left
refused_left nodes dists reports = cond (words_stand 0 0 junk_report reports) (left_of nodes dists) Written

-- A close that is done: the reports behind those of the four jobs
unfoldable pub done_left : List ℕ → Left
done_left reports = cond (words_stand 8 0 junk_report reports) Untouched Written
