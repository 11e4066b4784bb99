-- How a case came out, and how many did. Assumes nothing.
use Rattle.std.specs.Prelude.{◌≡◌, ℕ, zero, suc, ◌+◌, ◌%◌, ◌^◌, Bool, cond, List, ◌++◌, Float, Option, Some, None, is_some}
use Rattle.std.specs.Borrow.{Bor}
use Rattle.std.specs.Option.{option_or, option_map_or}
use Rattle.cases.specs.declared.Cursor.{Cursor}
use Rattle.cases.specs.declared.Read.{Read}
use Rattle.cases.specs.declared.Fault.TheVariants.{Unexpected}
use Rattle.cases.specs.Text.{first, faulted, fault_number}
use Rattle.pages.specs.Page.{bytes, labelled}
use Rattle.replays.specs.Compare.{holds_only, all_zero}
use Rattle.kinds.specs.declared.Kind.{Kind}
use Rattle.kinds.specs.Kinds.{kind_at}
use Rattle.tallies.specs.declared.Difference.{Difference}
use Rattle.tallies.specs.declared.Difference.TheVariants.{Refused, Length, Nodes, Bits, Count, Beyond, Scratch, Words}
use Rattle.tallies.specs.declared.Outcome.{Outcome}
use Rattle.tallies.specs.declared.Tally.{Tally}

unfoldable pub no_case : Tally
no_case = record { compared = 0; differ = 0; cursor = first }

-- What lent places hold before a call
abbrev pub junk : ℕ
junk = 0xCDCDCDCD

-- Nothing differs yet
abbrev pub fresh_at : Cursor → Outcome
fresh_at c = record { differs = None; cursor = c }

abbrev pub moved_to : Outcome → Cursor → Outcome
moved_to o c = record { differs = o.differs; cursor = c }

-- What differed first is kept
unfoldable pub joined : Outcome → Bool → Difference → Outcome
joined o fine differs =
    cond fine o (record { differs = option_or o.differs (Some differs); cursor = o.cursor })

-- "Scratch .. all zero after success"
unfoldable pub scratched : Outcome → List ℕ → List Float → Outcome
scratched o words floats = joined (joined o (holds_only 0 words) Scratch) (all_zero floats) Scratch

unfoldable pub counted : Tally → Outcome → Tally
counted t o =
    record {
      compared = (t.compared + 1) % 2 ^ 32;
      differ = cond (is_some o.differs) ((t.differ + 1) % 2 ^ 32) t.differ;
      cursor = o.cursor;
    }

-- A case of another kind where the list should end is a number that the format does not allow
unfoldable pub closed : Tally → Read (Option Kind) → Tally
closed t case =
    record { compared = t.compared; differ = t.differ; cursor = cond (is_some case.value) (faulted case.cursor Unexpected) case.cursor }

-- The tally of a list with the cases from its place on, where `came` says how a case comes out, and nothing for one of a kind that is not replayed, which ends the
-- list as its end does; the second argument is the most cases that are counted.
unfoldable pub tallied : (List ℕ → Kind → Cursor → Option Outcome) → ℕ → List ℕ → Tally → Tally
tallied came zero text t = t
tallied came (suc most) text t =
    let case = kind_at text t.compared t.cursor in
    option_map_or (λ kind. option_map_or (λ o. tallied came most text (counted t o)) (came text kind case.cursor) (closed t case)) case.value
    (closed t case)

-- What is answered for a case of a list is what `came` says.
abbrev pub Comes : (Bor (List ℕ) → Kind → Cursor → Option Outcome → Type 0) → (List ℕ → Kind → Cursor → Option Outcome) → Type 0
Comes Post came = (text : Bor (List ℕ)) (kind : Kind) (c : Cursor) (o : Option Outcome) → Post text kind c o → o ≡ came text.now kind c

-- What is said of a case, behind its number
unfoldable pub differs_text : Difference → List ℕ
differs_text Refused = bytes " is refused\n"
differs_text Length = bytes " differs in a length\n"
differs_text Nodes = bytes " differs in node numbers\n"
differs_text Bits = bytes " differs in distance bits\n"
differs_text Count = bytes " differs in a count\n"
differs_text Beyond = bytes " changes a place that is not its own\n"
differs_text Scratch = bytes " leaves scratch that is not zero\n"
differs_text Words = bytes " differs in other words\n"

-- What is said of all cases
unfoldable pub tally_text : List ℕ → Tally → List ℕ
tally_text label t =
    labelled label t.compared ++ labelled (bytes "\nthat differ: ") t.differ ++ labelled (bytes "\nnumbers: ") t.cursor.count
    ++ labelled (bytes ", sum: ") t.cursor.sum ++ labelled (bytes ", fault: ") (fault_number t.cursor.fault) ++ bytes "\n"
