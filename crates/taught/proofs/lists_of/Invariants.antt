-- `taught::lists_of` meets its contract: the lists from `base` before the p-th stand. Assumes nothing.
use Rattle.taught.specs.Taught.{eight_in}
use Rattle.taught.proofs.Laws.{Teaching}
use Rattle.taught.proofs.lists_of.Given as goal

abbrev pub invariant-loop-p : goal.invariant-loop-p
invariant-loop-p l = Teaching (eight_in l.base l.rows) l.n l.init_k l.base l.initial.lists l.rows l.lists l.rows l.nodes l.dists l.p
