-- `backs::reverse` meets its contract: gathered, cut, copied. Assumes nothing.
use native.Mathlib.Omega.{arith}
use Rattle.backs.proofs.Laws.{reversed}
use Rattle.backs.proofs.reverse.Goals as goal

pub returns : goal.returns
returns c =
    let made = c.back_members-len.ensures in
    let most = made.most in
    let long = made.long in
    let room = c.requires.n_bound.6 in
    reversed made (omega arith) c.keep_back-kept.ensures c.drawn_after-next.ensures c.put_back.ensures
