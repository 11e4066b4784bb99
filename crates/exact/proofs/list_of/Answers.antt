-- `exact::list_of` meets its contract, from what its two parts ensure. Assumes nothing.
use Rattle.exact.proofs.Laws.{listed}
use borrow.Author.Rules.{rules}
use Rattle.exact.proofs.list_of.Goals as goal

pub returns : goal.returns
returns c =
    let pre = c.requires in
    listed pre.holds_row.5 pre.le_init_k.1 pre.le_init_k.2 c.gather-len.ensures c.turn_round.ensures (search rules)
