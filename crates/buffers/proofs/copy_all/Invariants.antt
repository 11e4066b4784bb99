-- `buffers::copy_all` meets its contract: the first `i` places are copied. Assumes nothing.
use Rattle.buffers.proofs.Laws.{Written}
use Rattle.buffers.proofs.copy_all.Given as goal

abbrev pub invariant-loop-i : goal.invariant-loop-i
invariant-loop-i g l = Written l.src l.initial.dst l.dst l.i
