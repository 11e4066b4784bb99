-- What the search leaves of `relay_close::lowest_unfinished`.
use mathlib.Core.Path.{sym, ap, ◌∙◌}
use mathlib.Core.Bool.{not}
use native.Mathlib.Omega.{arith}
use borrow.Author.Tests.{eq-eqb, ne_eqb}
use Rattle.rules.proofs.Loops.{first-here, first_turn, first-end}
use Rattle.relay_close.proofs.lowest_unfinished.Goals as goal

pub returns-then-words-jobs-ne8 : goal.returns-then-words-jobs-ne8
returns-then-words-jobs-ne8 c =
    let first = sym c.loop-i.invariant ∙ first-here _ _ _ c.loop-i-test.true (ap not (ne_eqb _ 8 c.if-words-jobs-ne8.true)) in
    (omega arith, sym first)

pub loop-i-preserved : goal.loop-i-preserved
loop-i-preserved c = first_turn _ _ _ c.loop-i-test.true (ap not (eq-eqb _ 8 c.if-words-jobs-ne8.false)) ∙ c.loop-i.invariant

pub returns : goal.returns
returns c = let last = sym c.loop-i.invariant ∙ first-end _ _ _ c.loop-i-test.false in omega arith
