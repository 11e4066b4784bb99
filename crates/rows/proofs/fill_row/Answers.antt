-- `rows::fill_row` meets its contract. Assumes nothing.
use Rattle.rows.proofs.Laws.{filled_by, row-filled}
use borrow.Author.Rules.{rules}
use Rattle.rows.proofs.fill_row.Goals as goal

pub returns : goal.returns
returns c =
    let pre = c.requires in
    let args = c.args in
    rw (filled_by args.kept args.n args.nodes.now c.fill.new.self (search rules) (c.fill.ensures.after (λ y e. e)), filled_by args.kept _ args.dists.now c.fill-2.new.self (search rules) (c.fill-2.ensures.after (λ y e. e)))
    (row-filled args.n args.w args.kept args.nodes.now args.dists.now pre.0 pre.1 pre.2)
