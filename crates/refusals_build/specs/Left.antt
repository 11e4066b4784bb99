-- What became of the lent places where a call is refused. Assumes nothing.
use Rattle.std.specs.Prelude.{ℕ, cond, not, List, Float}
use Rattle.refusals.specs.declared.Left.{Left}
use Rattle.refusals.specs.declared.Left.TheVariants.{Written}
use Rattle.refusals.specs.Junk.{words_stand, left_of}

-- The first place of the graph holds 0xCD000000 before a call. Where it does not stand as it was, scratch is not told.
unfoldable pub refused_left : List ℕ → List ℕ → List Float → Left
refused_left graph words floats = cond (not (words_stand 0 0 0xCD000000 graph)) Written (left_of words floats)
