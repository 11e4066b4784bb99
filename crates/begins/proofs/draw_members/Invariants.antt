-- `begins::draw_members` meets its contract: the draws so far stand behind the length. Assumes nothing.
use Rattle.begins.proofs.Laws.{Drawing}
use Rattle.begins.proofs.draw_members.Given as goal

abbrev pub invariant-loop-j : goal.invariant-loop-j
invariant-loop-j l = Drawing l.draws l.n l.s l.at l.words l.j
