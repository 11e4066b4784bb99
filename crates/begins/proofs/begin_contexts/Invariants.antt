-- `begins::begin_contexts` meets its contract: the contexts before the i-th stand. Assumes nothing.
use Rattle.begins.proofs.Laws.{Beginning}
use Rattle.begins.proofs.begin_contexts.Given as goal

abbrev pub invariant-loop-i : goal.invariant-loop-i
invariant-loop-i l = Beginning l.draws l.n l.s l.words l.i
