-- `refusals_relay::put_moved` meets its contract. Assumes nothing.
use Rattle.pages.specs.Page.{bytes}
use Rattle.refusals_relay.specs.Texts.{moved_text}
use Rattle.refusals_relay.proofs.put_moved.Goals as goal

pub returns-in-Ok : goal.returns-in-Ok
unfolding moved_text bytes
returns-in-Ok c = rw c.in-Ok.is c.put.ensures

pub returns-in-Err : goal.returns-in-Err
unfolding moved_text
returns-in-Err c = rw c.in-Err.is c.put_refusal.ensures
