-- `walk::bound` meets its contract. Assumes nothing.
use borrow.Author.Tests.{lt-ltb, le-ltb}
use Rattle.walk.specs.Walks.{bound}
use Rattle.walk.proofs.bound.Goals as goal

pub returns-then-len-k : goal.returns-then-len-k
unfolding bound
returns-then-len-k c = rw (lt-ltb _ _ c.if-len-k.true)

pub returns : goal.returns
unfolding bound
returns c = rw (le-ltb _ _ c.if-len-k.false)
