-- `pages::put` meets its contract. Assumes nothing.
use Rattle.pages.proofs.Laws.{puts_part}
use Rattle.pages.proofs.put.Goals as goal

pub returns : goal.returns
returns c = rw c.copy_from_slice.ensures.after (puts_part c.args.at c.min-start.result c.min-long.result c.args.bytes.now c.args.page.now c.min-start.ensures c.min-long.ensures)
