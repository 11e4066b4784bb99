-- `renews::is_taken` meets its contract. Assumes nothing.
use mathlib.Core.Path.{◌∙◌}
use borrow.Author.Tests.{le-ltb}
use Rattle.renews.proofs.Laws.{taken_none, taken_is, as_asked}
use Rattle.renews.proofs.is_taken.Goals as goal

pub returns-then-v-n : goal.returns-then-v-n
returns-then-v-n c = λ flags held at.
    let w = c.args.visited in
    as_asked c.is_visited.result w ∙ rw (c.is_visited.ensures flags held) (taken_is _ _ flags _ w c.if-v-n.true)

pub returns-else-v-n : goal.returns-else-v-n
returns-else-v-n c = λ flags held at. le-ltb _ _ c.if-v-n.false ∙ taken_none _ _ flags _ c.args.visited c.if-v-n.false at
