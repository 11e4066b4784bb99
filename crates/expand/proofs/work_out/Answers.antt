-- `expand::work_out` meets its contract. Assumes nothing.
use mathlib.Core.Path.{◌≡◌, sym, ◌∙◌}
use Prim.Native.Nat.{◌+◌, ◌-◌}
use native.Mathlib.Omega.{arith}
use Rattle.expand.proofs.Areas.{found-pushed_by}
use Rattle.expand.proofs.Steps.{worked_fit, worked_far, worked-unfit}
use Rattle.expand.proofs.work_out.Goals as goal

pub returns-then-far-x : goal.returns-then-far-x
returns-then-far-x c =
    worked_far _ _ _ _ _ _ _ (sym c.distance-d.ensures ∙ c.in-Some.is) c.if-far-x.true

pub returns-else-far-x : goal.returns-else-far-x
returns-else-far-x c =
    let n = c.args.asked.counters.n in
    let e : n + n + 64 + 64 - (n + n + 64) ≡ 64 = omega arith in
    worked_fit _ _ _ _ _ _ _ (sym c.distance-d.ensures ∙ c.in-Some.is) c.if-far-x.false
    (found-pushed_by n _ _ c.requires.room _ e c.push-more.ensures)

pub returns-in-None : goal.returns-in-None
returns-in-None c =
    worked-unfit _ _ _ _ _ _ _ (sym c.distance-d.ensures ∙ c.in-None.is)
