-- The cases of a list, one behind the other. Assumes nothing.
use Rattle.std.specs.Prelude.{◌≡◌, ℕ, zero, suc, ◌+◌, ◌%◌, ◌^◌, List, Result, IfOk}
use Rattle.std.specs.Option.{option_map_or}
use Rattle.cases.specs.declared.Cursor.{Cursor}
use Rattle.cases.specs.declared.Read.{Read}
use Rattle.replays.specs.Next.{case_at}

-- How many cases are passed, from so many and a place on, and the place behind them, where `next` leads behind a case; the second argument is the most that are.
unfoldable pub cases_passed : (Cursor → Cursor) → ℕ → List ℕ → ℕ → Cursor → Read ℕ
cases_passed next zero text passed c = record { value = passed; cursor = c }
cases_passed next (suc most) text passed c =
    let case = case_at text passed c in
    option_map_or (λ kind. cases_passed next most text ((passed + 1) % 2 ^ 32) (next case.cursor)) case.value
    (record { value = passed; cursor = case.cursor })

-- What is answered for the place of a case leads behind it, unless it fails.
abbrev pub Leads : {E : Type 0} → (Cursor → ℕ → ℕ → Result Cursor E → Type 0) → (Cursor → Cursor) → Type 0
Leads {E} Post next = (c : Cursor) (number kind : ℕ) (r : Result Cursor E) → Post c number kind r → IfOk r (λ d. d ≡ next c)
