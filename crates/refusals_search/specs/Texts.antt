-- The line of a call. Assumes nothing.
use Rattle.std.specs.Prelude.{Ok, Err, ℕ, List, ◌++◌, take, Float}
use Rattle.rules.specs.Answers.{SearchAnswer}
use Rattle.pages.specs.Page.{bytes, labelled}
use Rattle.refusals.specs.Texts.{refusal_text, left_text, words_text}
use Rattle.refusals_search.specs.Left.{results_left}

-- m, the takings, and the first m of the result nodes and bits
unfoldable pub results_text : ℕ → ℕ → List ℕ → List ℕ → List ℕ
results_text m takings nodes bits =
    labelled (bytes ": ") m ++ labelled (bytes ",") takings ++ bytes ", nodes" ++ words_text (take m nodes) ++ bytes " at" ++ words_text (take m bits)

-- Behind the case's number: what was answered, and what became of the lent places: after a refusal all of them are looked at
unfoldable pub rest_text : SearchAnswer → List ℕ → List ℕ → List ℕ → List Float → List ℕ
rest_text (Ok c) nodes bits words floats = results_text c.m c.takings nodes bits ++ left_text (results_left c.m nodes bits words floats)
rest_text (Err r) nodes bits words floats = refusal_text r ++ left_text (results_left 0 nodes bits words floats)
