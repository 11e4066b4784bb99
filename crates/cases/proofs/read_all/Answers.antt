-- What the search leaves of `cases::read_all`.
use Rattle.std.proofs.Common.{rules}
use Rattle.cases.proofs.Laws.{filling_none, filling_turn, filling_end}
use Rattle.cases.proofs.read_all.Goals as goal

pub loop-i-init : goal.loop-i-init
loop-i-init g c = filling_none _ _ _ _

pub loop-i-preserved : goal.loop-i-preserved
loop-i-preserved g c =
    let w = c.read_word-w in
    filling_turn _ _ _ _ _ _ _ c.loop-i.invariant w.result w.ensures (search rules) c.of.result (search rules) (search rules)

pub returns : goal.returns
returns g c = let both = filling_end _ _ _ _ _ _ _ c.loop-i.invariant (search rules) in record { out_after = both.0; value = both.1 }
