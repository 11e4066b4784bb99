-- The line of a call. Assumes nothing.
use Rattle.std.specs.Prelude.{Ok, Err, ℕ, ◌-◌, cond, not, List, [], ◌++◌, length, ◌==◌, nat_le, slice_index, Float}
use Rattle.rules.specs.Answers.{Answer}
use Rattle.pages.specs.Page.{bytes, labelled}
use Rattle.refusals.specs.Junk.{words_stand, left_of}
use Rattle.refusals.specs.Texts.{refusal_text, left_text, graph_text}
use Rattle.refusals_build.specs.Left.{refused_left}

-- A graph of rows of one place: the first, and how many further ones hold the node before their own, where all do
unfoldable pub long_text : List ℕ → List ℕ
long_text graph =
    let first = labelled (bytes ": ") (slice_index graph 0) in
    cond (length graph == 0) []
    (cond (not (words_stand 1 0 0xFFFFFFFF graph)) first (first ++ labelled (bytes ", and ") (length graph - 1) ++ bytes " nodes one behind"))

-- A graph of more than 256 places is not printed in full.
unfoldable pub printed_text : ℕ → List ℕ → List ℕ
printed_text size graph = cond (nat_le (length graph) 256) (graph_text size graph) (long_text graph)

-- Behind the case's number: what was answered, and what became of the lent places
unfoldable pub rest_text : Answer → ℕ → List ℕ → List ℕ → List Float → List ℕ
rest_text (Ok _) size graph words floats = printed_text size graph ++ left_text (left_of words floats)
rest_text (Err r) size graph words floats = refusal_text r ++ left_text (refused_left graph words floats)
