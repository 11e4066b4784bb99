-- `relay_close::write_lists` meets its contract: the lists before the w-th are written. Assumes nothing.
use Rattle.rules.specs.Places.{list_words, list_floats}
use Rattle.rules.specs.RelayPlaces.{relay_in}
use Rattle.relay_close.proofs.Blocks.{Blocks}
use Rattle.relay_close.proofs.write_lists.Given as goal

abbrev pub invariant-loop-w : goal.invariant-loop-w
invariant-loop-w l = Blocks (list_words (relay_in l.n l.k l.words l.floats).lists) l.k l.w l.nodes × Blocks (list_floats (relay_in l.n l.k l.words l.floats).lists) l.k l.w l.distances
