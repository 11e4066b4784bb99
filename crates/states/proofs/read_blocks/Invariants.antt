-- `states::read_blocks` meets its contract: what is left says what the whole says. Assumes nothing.
use Rattle.states.proofs.Reading.{Blocks}
use Rattle.states.proofs.read_blocks.Given as goal

abbrev pub invariant-loop-i : goal.invariant-loop-i
invariant-loop-i l = Blocks l.text l.initial.out l.initial.cursor l.out l.i l.cursor
