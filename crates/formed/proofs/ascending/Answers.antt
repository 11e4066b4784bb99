-- What the search leaves of `formed::ascending`.
use mathlib.Core.Path.{sym, ◌∙◌}
use mathlib.Core.Bool.{true, false}
use native.Mathlib.Omega.{arith}
use Rattle.formed.proofs.Laws.{in_order_lem, in_order-end}
use Rattle.formed.proofs.ascending.Goals as goal

pub returns-then-precedes : goal.returns-then-precedes
returns-then-precedes c =
    let pre = c.requires in
    sym (in_order_lem 0 _ _ _ pre.0 pre.1 _ true c.loop-i.invariant (omega arith) c.loop-i-test.true (rw (c.entry_at.ensures, c.entry_at-x.ensures) at (sym c.precedes.ensures ∙ c.if-precedes.true)))

pub loop-i-preserved : goal.loop-i-preserved
loop-i-preserved c =
    let pre = c.requires in
    sym (in_order_lem 0 _ _ _ pre.0 pre.1 _ false c.loop-i.invariant (omega arith) c.loop-i-test.true (rw (c.entry_at.ensures, c.entry_at-x.ensures) at (sym c.precedes.ensures ∙ c.if-precedes.false)))

pub returns : goal.returns
returns c =
    let pre = c.requires in
    in_order-end 0 _ _ _ pre.0 pre.1 _ c.loop-i.invariant c.loop-i-test.false
