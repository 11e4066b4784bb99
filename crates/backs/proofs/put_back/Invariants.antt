-- `backs::put_back` meets its contract: the contexts before the i-th have the list. Assumes nothing.
use Rattle.backs.proofs.Laws.{Putting}
use Rattle.backs.proofs.put_back.Given as goal

abbrev pub invariant-loop-i : goal.invariant-loop-i
invariant-loop-i l = Putting l.n l.at l.src l.initial.contexts l.contexts l.i
