-- `backs::back_members` meets its contract: the numbers of the nodes so far stand. Assumes nothing.
use Rattle.backs.proofs.Laws.{Backing}
use Rattle.backs.proofs.back_members.Given as goal

abbrev pub invariant-loop-i : goal.invariant-loop-i
invariant-loop-i l = Backing l.n l.at l.contexts l.initial.out l.out l.len l.i
