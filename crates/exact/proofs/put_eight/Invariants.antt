-- `exact::put_eight` meets its contract: the first t are written. Assumes nothing.
use Rattle.exact.specs.Exact.{PutEight}
use Rattle.exact.proofs.put_eight.Given as goal

abbrev pub invariant-loop-t : goal.invariant-loop-t
invariant-loop-t l = PutEight l.initial.rows l.at l.total-items l.t l.rows
