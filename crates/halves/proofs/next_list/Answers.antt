-- `halves::next_list` meets its contract: a push, a pop, and steps at which the list stays. Assumes nothing.
use borrow.Author.Tests.{eq-eqb}
use Rattle.std.proofs.Common.{inl, inr}
use Rattle.halves.proofs.Laws.{list-kept, list_pushed, list-popped, stays_left, stays_short, stays}
use Rattle.halves.proofs.next_list.Goals as goal

pub returns-then-taken-eq1 : goal.returns-then-taken-eq1
returns-then-taken-eq1 c =
    let p = c.requires in
    list_pushed p.le_len.2 _ _ _ _ c.if-steps-eq1.true (eq-eqb _ 1 c.if-taken-eq1.true) (p.len_in_bounds c.if-steps-eq1.true c.if-taken-eq1.true) c.push.ensures

pub returns-then-longer-eq1 : goal.returns-then-longer-eq1
returns-then-longer-eq1 c = list-popped c.requires.le_len.2 _ _ _ _ c.if-steps-eq3.true (eq-eqb _ 1 c.if-longer-eq1.true) c.pop.ensures

pub returns : goal.returns
returns c =
    let p = c.requires.le_len in
    elim c.else-steps-eq1.either [
      | inl left ↦ list-kept p.2 _ _ (stays_left _ _ _ _ _ left.0 left.1)
      | inr first ↦
          elim c.else-steps-eq3.either [
            | inl short ↦ list-kept p.2 _ _ (stays_short _ _ _ _ _ short.0 short.1)
            | inr last ↦ list-kept p.2 _ _ (stays _ _ _ _ _ p.1 (λ h. absurd (first h)) (λ h. absurd (last h)))
          ]
    ]
