-- `rows::finish_row` meets its contract. Assumes nothing.
use mathlib.Core.Path.{◌∙◌}
use Rattle.rows.proofs.Laws.{filled_by, row-finished}
use borrow.Author.Rules.{rules}
use Rattle.rows.proofs.finish_row.Goals as goal

pub returns : goal.returns
returns c =
    let args = c.args in
    filled_by c.live_len-live.result args.n args.nodes.now c.fill.new.self (search rules) (c.fill.ensures.after (λ y e. e))
    ∙ row-finished args.n args.nodes.now c.requires.0 c.requires.1 c.live_len-live.ensures
