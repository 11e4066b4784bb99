-- `relays::compare_bits` meets its contract: what is left says what the whole says. Assumes nothing.
use Rattle.relays.proofs.Laws.{Counting}
use Rattle.relays.proofs.compare_bits.Given as goal

abbrev pub invariant-loop-x : goal.invariant-loop-x
invariant-loop-x l = Counting l.text l.ours l.initial.cursor l.x-index l.value l.cursor
