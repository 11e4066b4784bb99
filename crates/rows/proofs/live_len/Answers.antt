-- `rows::live_len` meets its contract. Assumes nothing.
use lib.Ieee.{Float, eq}
use lib.ListN.{take}
use Rattle.std.proofs.lemmas.Iterator.{YieldsList-from_slice}
use Rattle.std.proofs.lemmas.Iterator.Search.{position_from_yields_List}
use Rattle.rules.specs.Rows.{empty_distance}
use Rattle.rows.proofs.Laws.{live_in}
use borrow.Author.Rules.{rules}
use Rattle.rows.proofs.live_len.Goals as goal

pub returns : goal.returns
returns c =
    let first = position_from_yields_List (λ (d : Float). eq d empty_distance) _ _ _ c.position.ensures.ran (YieldsList-from_slice (take c.args.w c.args.dists.now) cc) (λ x b q k. search rules) in
    rw c.unwrap_or.ensures (live_in c.requires first)
