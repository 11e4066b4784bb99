-- `descent_state::members_formed` meets its contract. Assumes nothing.
use mathlib.Core.Path.{◌≡◌, sym, ap, ◌∙◌}
use mathlib.Core.Bool.{true≢false}
use borrow.Author.Tests.{lt-leb}
use Prim.Native.Nat.{ℕ, ◌+◌, ◌-◌}
use native.Mathlib.Omega.{arith}
use lib.ListN.{take, drop, get_or}
use Rattle.rules.specs.DescentPlaces.{members_formed}
use Rattle.descent_state.proofs.Members.{too_long, not_zeros, all-zeros}
use Rattle.descent_state.proofs.members_formed.Goals.{then-len-le64, else-len-le64}
use Rattle.descent_state.proofs.members_formed.Goals as goal

pub returns-then-words_zero : goal.returns-then-words_zero
returns-then-words_zero c =
    let us = c.args.words.now in
    let e : get_or us 0 0 + 1 - 1 ≡ get_or us 0 0 = omega arith in
    let t = c.if-words_zero.true in
    elim c.if-len-le64.branch [
      | then-len-le64 w ↦
          c.members_below.ensures ∙ ap (λ (m : ℕ). members_formed c.args.n (take m (drop 1 us))) e
          ∙ all-zeros _ _ c.requires w.if-len-le64.true (sym w.words_zero.ensures ∙ sym w.value-is ∙ t)
      | else-len-le64 w ↦ absurd (true≢false (sym t ∙ w.value-is ∙ lt-leb (get_or us 0 0) 64 w.if-len-le64.false))
    ]

pub returns-else-words_zero : goal.returns-else-words_zero
returns-else-words_zero c =
    elim c.if-len-le64.branch [
      | then-len-le64 w ↦ c.if-words_zero.false ∙ not_zeros _ _ c.requires w.if-len-le64.true (sym w.words_zero.ensures ∙ sym w.value-is ∙ c.if-words_zero.false)
      | else-len-le64 w ↦ c.if-words_zero.false ∙ too_long _ _ c.requires w.if-len-le64.false
    ]
