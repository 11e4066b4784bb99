-- `begins::begin_context` meets its contract: four lists, one behind the other. Assumes nothing.
use Rattle.begins.proofs.Laws.{context_written}
use Rattle.begins.proofs.begin_context.Goals as goal

pub returns : goal.returns
returns c = context_written _ _ _ _ c.requires.1 c.args.words.now c.requires.0 c.draw_members.ensures (c.fill.ensures.after (λ y e. e)) c.draw_members-2.ensures (c.fill-2.ensures.after (λ y e. e))
