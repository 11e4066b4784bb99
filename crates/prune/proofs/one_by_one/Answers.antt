-- What the search leaves of `prune::one_by_one`.
use mathlib.Core.Path.{sym, ◌∙◌}
use lib.Ieee.{nan}
use Rattle.prune.proofs.Laws.{stood, below-entry, below-is, any_entry-here, any_entry_turn, any_entry-end}
use borrow.Author.Rules.{rules}
use Rattle.prune.proofs.one_by_one.Goals as goal

pub between-djk-requires : goal.between-djk-requires
between-djk-requires c =
    let pre = c.requires in
    (pre.within.0, below-is _ c.entry_at-r.ensures (below-entry _ _ _ _ _ 0 pre.within.1 (search rules) pre.kept_in_bounds.0 pre.kept_in_bounds.1))

pub returns-then-stands_before : goal.returns-then-stands_before
returns-then-stands_before c =
    sym (any_entry-here _ _ _ _ c.loop-i.i 0 nan c.requires.kept_in_bounds.0 c.requires.kept_in_bounds.1 (search rules) (sym (stood _ _ _ _ _ c.stands_before.ensures c.between-djk.ensures c.entry_at-r.ensures) ∙ c.if-stands_before.true)) ∙ c.loop-i.invariant

pub loop-i-preserved : goal.loop-i-preserved
loop-i-preserved c =
    any_entry_turn _ _ _ _ c.loop-i.i 0 nan c.requires.kept_in_bounds.0 c.requires.kept_in_bounds.1 (search rules) (sym (stood _ _ _ _ _ c.stands_before.ensures c.between-djk.ensures c.entry_at-r.ensures) ∙ c.if-stands_before.false) ∙ c.loop-i.invariant

pub returns : goal.returns
returns c =
    sym (any_entry-end _ _ _ _ c.loop-i.i 0 nan c.requires.kept_in_bounds.0 c.requires.kept_in_bounds.1 (search rules)) ∙ c.loop-i.invariant
