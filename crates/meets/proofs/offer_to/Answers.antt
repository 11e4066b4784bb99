-- `meets::offer_to` meets its contract. Assumes nothing.
use mathlib.Core.Path.{◌≡◌}
use Prim.Native.Nat.{◌+◌, ◌-◌, ◌*◌}
use native.Mathlib.Omega.{arith}
use Rattle.meets.proofs.Laws.{offered_in}
use Rattle.meets.proofs.offer_to.Goals as goal

pub returns : goal.returns
returns c =
    let p = c.requires in
    let u = c.args.u.0 in
    let k = c.args.k in
    let e : u * k + k - u * k ≡ k = omega arith in
    offered_in _ _ _ _ _ p.0 p.1 p.3 p.4 p.5 e c.offer.ensures
