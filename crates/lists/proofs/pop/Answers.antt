-- `lists::pop` meets its contract. Assumes nothing.
use Rattle.lists.proofs.Slices.{popped}
use Rattle.lists.proofs.pop.Goals as goal

pub returns : goal.returns
returns c = popped c.requires.0 c.requires.1 c.requires.2
