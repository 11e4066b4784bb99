-- One turn and the end of the loop over a list's cases. Assumes nothing.
use Rattle.std.proofs.Common.{◌≡◌, ℕ, suc, ◌+◌, ◌-◌, ◌%◌, ◌^◌, ◌<◌, ◌≤◌, List, Option, Some, None, arith}
use Rattle.cases.specs.declared.Cursor.{Cursor}
use Rattle.cases.specs.declared.Read.{Read}
use Rattle.replays.specs.Next.{case_at}
use Rattle.refusals.specs.Cases.{cases_passed}

module _ (next : Cursor → Cursor) (done most : ℕ) (text : List ℕ) (passed : ℕ) (c : Cursor) where
  pub cases_over : most ≤ done → record { value = passed; cursor = c } ≡ cases_passed next (most - done) text passed c
  unfolding cases_passed
  cases_over h =
      let none : most - done ≡ 0 = omega arith in
      rw none

  module _ (h : done < most) (case : Read (Option ℕ)) (e : case ≡ case_at text passed c) where
    left : most - done ≡ suc (most - (done + 1))
    left = omega arith

    pub cases_end : case.value ≡ None → record { value = passed; cursor = case.cursor } ≡ cases_passed next (most - done) text passed c
    unfolding cases_passed
    cases_end none = rw (left, ← e, none)

    pub cases_turn :
        (kind : ℕ) (d : Cursor) → case.value ≡ Some kind → d ≡ next case.cursor
        → cases_passed next (most - (done + 1)) text ((passed + 1) % 2 ^ 32) d ≡ cases_passed next (most - done) text passed c
    unfolding cases_passed
    cases_turn kind d some there = rw (left, ← e, some, there)
