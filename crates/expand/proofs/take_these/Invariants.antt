-- `expand::take_these` meets its contract: what is left of the entries gives the whole. Assumes nothing.
use Rattle.expand.proofs.Steps.{Taking}
use Rattle.expand.proofs.take_these.Given as goal

abbrev pub invariant-loop-i : goal.invariant-loop-i
invariant-loop-i l = Taking l.n l.m l.len l.tail l.initial.words l.initial.floats l.words l.floats l.end l.i
