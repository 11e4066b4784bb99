-- `exact::exact_list` meets its contract, from what its two parts ensure. Assumes nothing.
use Rattle.exact.proofs.Laws.{exact, holds-distances}
use borrow.Author.Rules.{rules}
use Rattle.exact.proofs.exact_list.Goals as goal

pub list_of-requires : goal.list_of-requires
list_of-requires c =
    let pre = c.requires in
    record { holds_row = (holds-distances _ _ _ _ _ _ c.distances_from.ensures, search rules, search rules, search rules, search rules, search rules); le_init_k = search rules }

pub returns : goal.returns
returns c = exact c.distances_from.ensures (search rules) c.list_of.ensures
