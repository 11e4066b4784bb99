-- `exact::goes_behind` meets its contract: a list that is short, and a look at the last. Assumes nothing.
use lib.Ieee.{nan}
use Rattle.exact.proofs.Laws.{behind-short, behind-looked}
use Rattle.exact.proofs.goes_behind.Goals as goal

pub returns-then-len-k : goal.returns-then-len-k
returns-then-len-k c =
    let pre = c.requires.le_k in
    behind-short _ _ _ _ _ pre.0 pre.1 pre.2 pre.3 c.if-len-k.true

pub returns : goal.returns
returns c =
    let pre = c.requires.le_k in
    let list = c.requires.holdable in
    behind-looked _ _ _ _ _ pre.0 pre.1 pre.2 pre.3 0 nan c.if-len-k.false list.0 list.1 list.2 c.precedes.result c.precedes.ensures
