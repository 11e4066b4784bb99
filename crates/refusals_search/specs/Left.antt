-- What became of the lent places. Assumes nothing.
use Rattle.std.specs.Prelude.{ℕ, cond, not, List, Float}
use Rattle.refusals.specs.declared.Left.{Left}
use Rattle.refusals.specs.declared.Left.TheVariants.{Written}
use Rattle.refusals.specs.Junk.{words_stand, left_of}

-- The first places of the results hold 0xCD000000 and 0xAB000000 before a call, and the first `m` are the answer's. Where others do not
-- stand as they were, scratch is not told.
unfoldable pub results_left : ℕ → List ℕ → List ℕ → List ℕ → List Float → Left
results_left m nodes bits words floats =
    cond (not (words_stand m 0 0xCD000000 nodes)) Written
    (cond (not (words_stand m 0 0xAB000000 bits)) Written (left_of words floats))
