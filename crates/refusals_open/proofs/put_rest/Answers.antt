-- `refusals_open::put_rest` meets its contract. Assumes nothing.
use Rattle.pages.specs.Page.{bytes}
use Rattle.pages.proofs.Laws.{puts_both}
use Rattle.refusals_open.specs.Texts.{rest_text}
use Rattle.refusals_open.proofs.put_rest.Goals as goal

pub returns-in-Ok : goal.returns-in-Ok
unfolding rest_text bytes
returns-in-Ok c = rw (c.in-Ok.is, ← c.scratch_left.ensures) (puts_both c.put-behind.ensures c.put_left.ensures)

pub returns-in-Err : goal.returns-in-Err
unfolding rest_text
returns-in-Err c = rw (c.in-Err.is, ← c.left_refused-left.ensures) (puts_both c.put_refusal-behind.ensures c.put_left-in-Err.ensures)
