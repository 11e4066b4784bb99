-- What the search leaves of `prune::by_four`.
use mathlib.Core.Path.{sym, ◌∙◌}
use lib.Ieee.{nan}
use Rattle.prune.proofs.Laws.{any_entry-end}
use borrow.Author.Rules.{rules}
use Rattle.prune.proofs.by_four.Goals as goal

pub returns : goal.returns
returns c =
    sym (any_entry-end _ _ _ _ c.loop-i.i 0 nan c.requires.kept_in_bounds.0 c.requires.kept_in_bounds.1 (search rules)) ∙ c.loop-i.invariant
