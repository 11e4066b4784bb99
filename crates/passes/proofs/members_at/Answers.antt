-- `passes::members_at` meets its contract. Assumes nothing.
use Rattle.passes.proofs.Contexts.{members_cut}
use Rattle.passes.proofs.members_at.Goals.{Start}
use Rattle.passes.proofs.members_at.Goals as goal

pub returns : goal.returns
returns c = members_cut c.args.context.now c.args.at c.requires.0
