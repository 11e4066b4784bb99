-- The parts of a refusal test's line. Assumes nothing.
use Rattle.std.specs.Prelude.{ℕ, suc, ◌+◌, ◌%◌, ◌^◌, cond, List, [], ◌∷◌, ◌++◌, ◌==◌}
use Rattle.cases.specs.declared.Cursor.{Cursor}
use Rattle.cases.specs.Text.{fault_number}
use Rattle.rules.specs.declared.Refusal.{Refusal}
use Rattle.rules.specs.Refusals.{code_of}
use Rattle.pages.specs.Page.{bytes, labelled}
use Rattle.refusals.specs.declared.Left.{Left}
use Rattle.refusals.specs.declared.Left.TheVariants.{Untouched, Zeroed, Written}

-- A refusal's number and places
unfoldable pub refusal_text : Refusal → List ℕ
refusal_text r =
    labelled (bytes ": ") (code_of r).number ++ labelled (bytes ",") (code_of r).first ++ labelled (bytes ",") (code_of r).second

-- The first place of a graph stands behind a colon, the first of each further row behind a slash.
unfoldable pub before_place : ℕ → ℕ → List ℕ
before_place i column = cond (i == 0) (bytes ": ") (cond (column == 0) (bytes " / ") (bytes ","))

unfoldable pub next_column : ℕ → ℕ → ℕ
next_column size column = let next = (column + 1) % 2 ^ 64 in cond (next == size) 0 next

-- The places of a graph from the one numbered i on, which is in a column of its row
unfoldable pub places_text : ℕ → ℕ → ℕ → List ℕ → List ℕ
places_text size i column [] = []
places_text size i column (n ∷ ns) = labelled (before_place i column) n ++ places_text size (suc i) (next_column size column) ns

-- "1,2 / 0,2 / 1,2 / 2,4", as the settled squares have a graph
abbrev pub graph_text : ℕ → List ℕ → List ℕ
graph_text size graph = places_text size 0 0 graph

-- What became of the lent places, at the end of a line
unfoldable pub left_text : Left → List ℕ
left_text Untouched = bytes ", untouched\n"
left_text Zeroed = bytes ", zeroed\n"
left_text Written = bytes ", written\n"

-- Each word behind a space
unfoldable pub words_text : List ℕ → List ℕ
words_text [] = []
words_text (w ∷ ws) = labelled (bytes " ") w ++ words_text ws

-- How many cases were passed, and the reader's fault
unfoldable pub end_text : ℕ → Cursor → List ℕ
end_text passed c = labelled (bytes "cases: ") passed ++ labelled (bytes ", fault: ") (fault_number c.fault) ++ bytes "\n"
