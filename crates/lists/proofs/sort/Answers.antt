-- What the search leaves of `lists::sort`.
use borrow.Author.Rules.{rules}
use Rattle.lists.proofs.Slices.{sorting_none, sorting_turn, sorting_end}
use Rattle.lists.proofs.sort.Goals as goal

pub loop-done-init : goal.loop-done-init
loop-done-init c = sorting_none

pub loop-done-preserved : goal.loop-done-preserved
loop-done-preserved c =
    let pre = c.requires in
    rw (← c.push.ensures.count) (sorting_turn c.loop-done.invariant pre.0 pre.1 _ _ c.loop-done-test.true (rw c.entry_at-e.ensures at c.push.ensures))

pub returns : goal.returns
returns c =
    let pre = c.requires in
    sorting_end c.loop-done.invariant pre.0 pre.1 (search rules)
