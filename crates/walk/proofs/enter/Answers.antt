-- What the search leaves of `walk::enter`.
use mathlib.Core.Path.{◌≡◌}
use native.Mathlib.Omega.{arith}
use lib.ListN.{length-set}
use Rattle.walk.proofs.Starts.{entering_none, entering_more, entering_end}
use borrow.Author.Rules.{rules}
use Rattle.walk.proofs.enter.Goals as goal

pub loop-i-init : goal.loop-i-init
loop-i-init c = (search rules, entering_none _ _ _)

pub bounds-words-at : goal.bounds-words-at
bounds-words-at c = simp length-set (omega arith)

pub loop-i-preserved : goal.loop-i-preserved
loop-i-preserved c =
    (search rules, entering_more c.requires.room c.loop-i.invariant.1 (search rules) (search rules))

pub shape_of-words : goal.shape_of-words
shape_of-words c = c.loop-i.invariant.1.kept.words

pub shape_of-floats : goal.shape_of-floats
shape_of-floats c = c.loop-i.invariant.1.kept.floats

pub returns : goal.returns
returns c =
    let pre = c.requires in
    let whole : c.loop-i.i ≡ c.args.m = omega arith in
    entering_end pre.room pre.m_bound.0 (rw whole at c.loop-i.invariant.1)
