-- `expand::join` meets its contract. Assumes nothing.
use mathlib.Core.Path.{◌≡◌}
use Prim.Native.Nat.{◌+◌, ◌-◌}
use native.Mathlib.Omega.{arith}
use Rattle.expand.proofs.Areas.{best-pushed_by}
use Rattle.expand.proofs.Steps.{joined}
use Rattle.expand.proofs.join.Goals as goal

pub returns : goal.returns
returns c =
    let n = c.args.n in
    let e : n + n + 64 - (n + n) ≡ 64 = omega arith in
    joined c.requires.room c.requires.le_m.1 c.requires.le_m.2 (best-pushed_by n _ _ c.requires.room _ e c.requires.le_m.0 c.requires.le_m.1 c.push.ensures)
