-- `cases::read_all` meets its contract. Assumes nothing.
use Rattle.cases.proofs.Laws.{Filling}
use Rattle.cases.proofs.read_all.Given as goal

abbrev pub invariant-loop-i : goal.invariant-loop-i
invariant-loop-i g l = Filling (goal.F-post g l.of) l.text l.initial.out l.initial.cursor l.out l.i l.cursor
