-- What the search leaves of `prune::choose`.
use lib.Ieee.{nan}
use Rattle.prune.proofs.Laws.{below-is, below-entry, choosing_none, choosing_turn, choosing_full, choosing_end}
use borrow.Author.Rules.{rules}
use Rattle.prune.proofs.choose.Goals as goal

pub loop-i-init : goal.loop-i-init
loop-i-init c = choosing_none

pub returns-then-index_size-kept : goal.returns-then-index_size-kept
returns-then-index_size-kept c =
    let pre = c.requires.index_size_in_bounds in
    choosing_full c.loop-i.invariant pre.0 pre.1 (search rules)

pub keep-kept-requires : goal.keep-kept-requires
keep-kept-requires c =
    let pre = c.requires in
    let inv = c.loop-i.invariant in
    let below = below-is _ c.entry_at-p.ensures (below-entry _ _ _ _ _ 0 pre.within c.loop-i-test.true pre.len_in_bounds.0 pre.len_in_bounds.1) in
    record { within = (below, inv.below); kept_lt_index_size = search rules }

pub loop-i-preserved : goal.loop-i-preserved
loop-i-preserved c =
    let pre = c.requires in
    choosing_turn c.loop-i.invariant pre.len_in_bounds.0 pre.len_in_bounds.1 0 nan (search rules) pre.within (rw c.entry_at-p.ensures at c.keep-kept.ensures)

pub returns : goal.returns
returns c =
    let pre = c.requires in
    choosing_end c.loop-i.invariant pre.len_in_bounds.0 pre.len_in_bounds.1 pre.index_size_in_bounds.0 pre.index_size_in_bounds.1 (search rules)
