-- `pages::put_number` meets its contract. Assumes nothing.
use mathlib.Core.Path.{◌∙◌}
use borrow.Author.Rules.{rules}
use Rattle.pages.proofs.Digits.{fewest-decimal}
use Rattle.pages.proofs.Laws.{puts_both, puts_text}
use Rattle.pages.proofs.put_number.Goals as goal

pub returns : goal.returns
returns c =
    let two = c.put.ensures in
    let one = c.put-place.ensures in
    let dec = c.decimal-long.ensures in
    puts_both one (puts_text (dec.digits ∙ fewest-decimal (search rules) dec.len) two)
