-- `members::put_members` meets its contract. Assumes nothing.
use native.Mathlib.Omega.{arith}
use Rattle.members.proofs.Laws.{put}
use Rattle.members.proofs.put_members.Goals as goal

pub returns : goal.returns
returns c = put c.args.src.now c.args.dst.now _ _ _ c.requires.1 (c.fill.ensures.after (λ y e. e)) (omega arith) c.copy_all.ensures.after
