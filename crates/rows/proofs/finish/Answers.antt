-- What the search leaves of `rows::finish`.
use mathlib.Core.Path.{◌≡◌}
use Prim.Native.Nat.{◌+◌, ◌-◌, ◌*◌}
use native.Mathlib.Omega.{arith}
use Rattle.rows.proofs.Laws.{finishing_none, finishing_turn, finishing_end}
use borrow.Author.Rules.{rules}
use Rattle.rows.proofs.finish.Goals.{In-loop-q}
use Rattle.rows.proofs.finish.Goals as goal

pub loop-q-init : goal.loop-q-init
loop-q-init c = finishing_none _ _ _ _

pub loop-q-preserved : goal.loop-q-preserved
loop-q-preserved c =
    let pre = c.requires in
    let w = c.args.index_size in
    let a = c.loop-q.q in
    let wide : a * w + w - a * w ≡ w = omega arith in
    finishing_turn c.loop-q.invariant pre.nodes_len.0 pre.nodes_len.1 (search rules) _ wide c.finish_row.ensures

pub returns : goal.returns
returns c = finishing_end c.loop-q.invariant c.requires.nodes_len.0 (search rules)
