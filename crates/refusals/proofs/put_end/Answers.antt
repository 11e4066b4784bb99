-- `refusals::put_end` meets its contract. Assumes nothing.
use Rattle.pages.specs.Page.{bytes}
use Rattle.pages.proofs.Laws.{puts_both}
use Rattle.refusals.specs.Texts.{end_text}
use Rattle.refusals.proofs.put_end.Goals as goal

pub returns : goal.returns
unfolding end_text bytes
returns c = rw (← c.fault_number.ensures) (puts_both (puts_both c.put_word-cases.ensures c.put_word-fault.ensures) c.put.ensures)
