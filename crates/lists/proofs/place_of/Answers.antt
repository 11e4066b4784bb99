-- What the search leaves of `lists::place_of`.
use mathlib.Core.Path.{sym, ◌∙◌}
use Rattle.lists.proofs.Slices.{passed_here, passed_turn, passed-end}
use Rattle.lists.proofs.place_of.Goals as goal

pub returns-then-precedes : goal.returns-then-precedes
returns-then-precedes c =
    let pre = c.requires in
    passed_here c.loop-i.invariant pre.0 pre.1 _ _ c.loop-i-test.true
    (rw c.entry_at.ensures at (sym c.precedes.ensures ∙ c.if-precedes.true))

pub loop-i-preserved : goal.loop-i-preserved
loop-i-preserved c =
    let pre = c.requires in
    passed_turn c.loop-i.invariant pre.0 pre.1 _ _ c.loop-i-test.true
    (rw c.entry_at.ensures at (sym c.precedes.ensures ∙ c.if-precedes.false))

pub returns : goal.returns
returns c =
    let pre = c.requires in
    passed-end c.loop-i.invariant pre.0 pre.1 c.loop-i-test.false
