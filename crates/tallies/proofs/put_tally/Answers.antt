-- `tallies::put_tally` meets its contract. Assumes nothing.
use Rattle.pages.specs.Page.{bytes}
use Rattle.pages.proofs.Laws.{puts_both}
use Rattle.tallies.specs.Tallies.{tally_text}
use Rattle.tallies.proofs.put_tally.Goals as goal

pub returns : goal.returns
unfolding tally_text bytes
returns c =
    let one = c.put_word-compared.ensures in
    let two = c.put_word-differ.ensures in
    let three = c.put_word-count.ensures in
    let four = c.put_word-sum.ensures in
    let five = rw c.fault_number.ensures at c.put_word-fault.ensures in
    puts_both (puts_both (puts_both (puts_both (puts_both one two) three) four) five) c.put.ensures
