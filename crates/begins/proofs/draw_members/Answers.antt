-- What the search leaves of `begins::draw_members`.
use Rattle.begins.proofs.Laws.{drawing_none, drawing_turn, drawing_end}
use Rattle.begins.proofs.draw_members.Goals as goal

pub loop-j-init : goal.loop-j-init
loop-j-init c = drawing_none c.requires.0 (c.fill.ensures.after (λ y e. e))

pub loop-j-preserved : goal.loop-j-preserved
loop-j-preserved c = drawing_turn c.loop-j.invariant c.requires.1 c.loop-j-test.true c.drawn.ensures.0

pub returns : goal.returns
returns c = drawing_end c.loop-j.invariant c.requires.1 c.loop-j-test.false
