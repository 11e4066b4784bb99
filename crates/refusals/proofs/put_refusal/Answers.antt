-- `refusals::put_refusal` meets its contract. Assumes nothing.
use Rattle.pages.specs.Page.{bytes}
use Rattle.pages.proofs.Laws.{puts_both}
use Rattle.refusals.specs.Texts.{refusal_text}
use Rattle.refusals.proofs.put_refusal.Goals as goal

pub returns : goal.returns
unfolding refusal_text bytes
returns c =
    let one = c.put_number-number.ensures in
    let two = c.put_number-first.ensures in
    rw (← c.from-said.ensures) (puts_both (puts_both one two) c.put_number.ensures)
