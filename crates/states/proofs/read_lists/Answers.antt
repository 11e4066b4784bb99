-- `states::read_lists` meets its contract. Assumes nothing.
use Rattle.states.proofs.Reading.{lists_made}
use Rattle.states.proofs.read_lists.Goals as goal

pub returns : goal.returns
returns c =
    let s = c.split_at_mut-nodes.ensures in
    let w = c.read_words-bits.ensures in
    let f = c.read_floats-behind.ensures in
    lists_made _ _ _ _ _ _ _ _ _ _ _ (rw s.front_len at w.out_after) (rw s.front_len at w.value) f.out_after f.value (rw s.back at c.read_blocks.ensures)
