-- `refusals_relay::put_closed` meets its contract. Assumes nothing.
use Rattle.pages.specs.Page.{bytes}
use Rattle.pages.proofs.Laws.{puts_both}
use Rattle.refusals_relay.specs.Texts.{closed_text}
use Rattle.refusals_relay.proofs.put_closed.Goals as goal

pub returns-in-Ok : goal.returns-in-Ok
unfolding closed_text bytes
returns-in-Ok c = rw (c.in-Ok.is, ← c.left_done.ensures) (puts_both (puts_both c.put-named.ensures c.put_words-listed.ensures) c.put_left.ensures)

pub returns-in-Err : goal.returns-in-Err
unfolding closed_text
returns-in-Err c = rw (c.in-Err.is, ← c.left_refused.ensures) (puts_both c.put_refusal-behind.ensures c.put_left-in-Err.ensures)
