-- The next case of a list, or the list's end, by the format of oracle/README.md. Assumes nothing.
use Rattle.std.specs.Prelude.{ℕ, ◌+◌, ◌%◌, ◌^◌, cond, List, ◌==◌, Option, Some, None, is_some}
use Rattle.cases.specs.declared.Cursor.{Cursor}
use Rattle.cases.specs.declared.Fault.TheVariants.{Unexpected}
use Rattle.cases.specs.declared.Read.{Read}
use Rattle.cases.specs.declared.Token.{Token}
use Rattle.cases.specs.declared.Token.TheVariants.{Number, End, TooLarge, Strange}
use Rattle.cases.specs.Text.{token_at, faulted, word_at, size_at}

-- A number that the format does not allow there
unfoldable pub unexpected : Cursor → Read (Option ℕ)
unexpected c = record { value = None; cursor = faulted c Unexpected }

-- "Nothing follows."
unfoldable pub closed : Cursor → Token → Read (Option ℕ)
closed c (End _) = record { value = None; cursor = c }
closed c (Number _ _) = unexpected c
closed c (TooLarge _) = unexpected c
closed c (Strange _) = unexpected c

-- "the number 0 where a case's number would stand, and the number of cases"
unfoldable pub end_at : List ℕ → ℕ → Cursor → Read (Option ℕ)
end_at text passed c =
    let total = word_at text c in
    cond (total.value == passed) (closed total.cursor (token_at text total.cursor)) (unexpected total.cursor)

-- "its kind (1 to 6)"
unfoldable pub of_kind : Read ℕ → Read (Option ℕ)
of_kind s = cond (s.value == 0) (unexpected s.cursor) (record { value = Some s.value; cursor = s.cursor })

-- "A case is: its number (1, 2, 3, ..), its kind .."
unfoldable pub case_from : List ℕ → ℕ → Read ℕ → Read (Option ℕ)
case_from text passed number =
    cond (is_some number.cursor.fault) (record { value = None; cursor = number.cursor })
    (cond (number.value == 0) (end_at text passed number.cursor)
    (cond (number.value == (passed + 1) % 2 ^ 32) (of_kind (size_at 6 text number.cursor)) (unexpected number.cursor)))

unfoldable pub case_at : List ℕ → ℕ → Cursor → Read (Option ℕ)
case_at text passed c = case_from text passed (word_at text c)
