-- What became of the lent places where a call is refused. Assumes nothing.
use Rattle.std.specs.Prelude.{ℕ, List, Float}
use Rattle.refusals.specs.declared.Left.{Left}
use Rattle.refusals.specs.declared.Left.TheVariants.{Untouched, Zeroed, Written}
use Rattle.refusals.specs.Junk.{left_of}

-- Of a state that does not stand as it was, scratch is not told.
unfoldable pub with_state : Left → Left → Left
with_state Untouched scratch = scratch
with_state Zeroed scratch = Written
with_state Written scratch = Written

unfoldable pub refused_left : List ℕ → List Float → List ℕ → List Float → Left
refused_left words floats us fs = with_state (left_of words floats) (left_of us fs)
