-- What the search leaves of `put_row`.
use borrow.Author.Rules.{rules}
use Rattle.kernels.proofs.Laws.{put}
use Rattle.kernels.proofs.put_row.Goals as goal

pub returns : goal.returns
returns c = put c.loop-l.invariant.1 (search rules)
