-- `renews::renew_old` meets its contract. Assumes nothing.
use Rattle.renews.proofs.Puts.{old-put}
use Rattle.renews.proofs.renew_old.Goals as goal

pub returns : goal.returns
returns c = old-put c.requires.0.narrow c.requires.1 c.gather-len.ensures c.put_members.ensures
