-- One turn and the end of each loop over a text, and that nothing is passed behind a fault. Assumes nothing.
use mathlib.Core.Path.{◌≡◌, refl, ap, ◌∙◌}
use mathlib.Core.List.{List}
use Prim.Native.Nat.{ℕ, zero, suc, ◌+◌, ◌-◌, ◌*◌, ◌/◌, ◌≤◌, ◌<◌}
use native.Mathlib.Omega.{arith}
use Rattle.std.proofs.Common.{true, is_some}
use Rattle.cases.specs.declared.Cursor.{Cursor}
use Rattle.cases.specs.Text.{word_at, size_of, size_at, area_of, behind}
use Rattle.cases.proofs.Laws.{behind_fault}
use Rattle.kinds.specs.Kinds.{times, size, behind_run, behind_state, behind_move, behind_iteration}

abbrev pub Bad : Cursor → Type 0
Bad c = is_some c.fault ≡ true

module _ (step : Cursor → Cursor) where
  pub times_fault : ((c : Cursor) → Bad c → step c ≡ c) → (n : ℕ) (c : Cursor) → Bad c → times step n c ≡ c
  unfolding times
  times_fault stays zero c h = refl
  times_fault stays (suc n) c h = ap (times step n) (stays c h) ∙ times_fault stays n c h

  pub times_turn : (n i : ℕ) (c next : Cursor) → next ≡ step c → i < n → times step (n - (i + 1)) next ≡ times step (n - i) c
  unfolding times
  times_turn n i c next e h =
      let less : suc (n - (i + 1)) ≡ n - i = omega arith in
      ap (times step (n - (i + 1))) e ∙ ap (λ (k : ℕ). times step k c) less

  pub times_none : (n : ℕ) (c : Cursor) → n ≤ 0 → c ≡ times step n c
  unfolding times
  times_none n c h =
      let none : 0 ≡ n = omega arith in
      ap (λ (k : ℕ). times step k c) none

module _ (text : List ℕ) where
  pub size_fault : (c : Cursor) → Bad c → size text c ≡ record { value = 0; cursor = c }
  unfolding size_at size_of word_at
  size_fault c h = rw h

  pub run_fault : (c : Cursor) → Bad c → behind_run text c ≡ c
  unfolding behind_run behind
  run_fault c h = rw (size_fault c h)

  pub move_fault : (c : Cursor) → Bad c → behind_move text c ≡ c
  unfolding behind_move behind
  move_fault c h = rw (size_fault c h)

  pub iteration_fault : (n k : ℕ) (c : Cursor) → Bad c → behind_iteration text n k c ≡ c
  unfolding behind_iteration behind_state
  iteration_fault n k c h =
      rw (behind_fault 2 text c h, behind_fault (2 * area_of n k) text c h, times_fault (behind_run text) run_fault (area_of 4 n) c h) (behind_fault ((area_of n n + 31) / 32) text c h)
