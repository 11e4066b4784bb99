-- `renews::renew_new` meets its contract. Assumes nothing.
use Rattle.renews.proofs.Puts.{new-put}
use Rattle.renews.proofs.renew_new.Goals as goal

pub returns : goal.returns
returns c = new-put c.requires.0.narrow c.requires.1 c.gather-len.ensures c.keep_new-from.ensures c.drawn_after-next.ensures c.put_members.ensures
