-- What the search leaves of `exact::gather`.
use mathlib.Core.Path.{refl}
use native.Mathlib.Omega.{arith}
use Rattle.exact.specs.Exact.{apart_in}
use Rattle.exact.proofs.Laws.{gathered_none, gathered_turn, gathered_ascends, offered-same}
use borrow.Author.Rules.{rules}
use Rattle.exact.proofs.gather.Goals.{In-loop-i}
use Rattle.exact.proofs.gather.Goals as goal

pub loop-i-init : goal.loop-i-init
loop-i-init c = (gathered_none, c.farthest-bound.ensures)

pub consider-kept-requires : goal.consider-kept-requires
consider-kept-requires c =
    let args = c.args in
    let pre = c.requires in
    let inv = c.loop-i.invariant.0 in
    let u = inv.nodes_long in
    let v = inv.dists_long in
    record { i_bound = (search rules, pre.holds_row.0 c.loop-i.i (search rules), c.loop-i.invariant.1); le_k = (pre.le_init_k.0, inv.within, omega arith, omega arith); all_holdable = gathered_ascends (apart_in args.step args.at args.row.now) pre.holds_row.0 (search rules) inv }

pub loop-i-preserved : goal.loop-i-preserved
loop-i-preserved c =
    let args = c.args in
    let made = c.consider-kept.ensures in
    (gathered_turn c.loop-i.invariant.0 (offered-same {e = apart_in args.step args.at args.row.now} refl made.offered), made.beyond)
