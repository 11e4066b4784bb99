-- `shuffles::shuffle` meets its contract: the places below p are still to be shuffled. Assumes nothing.
use Rattle.shuffles.proofs.Laws.{Shuffling}
use Rattle.shuffles.proofs.shuffle.Given as goal

abbrev pub invariant-loop-p : goal.invariant-loop-p
invariant-loop-p l = Shuffling l.draws l.at l.initial.xs l.xs l.next l.p
