-- `rows::finish` meets its contract: the first `q` rows are finished. Assumes nothing.
use Rattle.rows.proofs.Laws.{Finishing}
use Rattle.rows.proofs.finish.Given as goal

abbrev pub invariant-loop-q : goal.invariant-loop-q
invariant-loop-q l = Finishing l.n l.index_size l.initial.nodes l.dists l.nodes l.q
