-- `iterates::meet_contexts` meets its contract: the contexts copied, and the passes over them. Assumes nothing.
use mathlib.Core.Path.{◌≡◌}
use Prim.Native.Nat.{◌+◌, ◌-◌, ◌*◌}
use native.Mathlib.Omega.{arith}
use Rattle.iterates.proofs.Meeting.{walkable_copy, met_in}
use Rattle.iterates.proofs.meet_contexts.Goals as goal

pub meet_all-requires : goal.meet_all-requires
meet_all-requires c =
    let p = c.requires in
    let a = c.args in
    let e : a.counters.n * a.k + 260 * a.counters.n - a.counters.n * a.k ≡ 260 * a.counters.n = omega arith in
    let room = p.2 in
    (p.0, walkable_copy p.0 p.1 _ room e c.copy_all.ensures.after)

pub returns : goal.returns
returns c =
    let p = c.requires in
    let a = c.args in
    let e : a.counters.n * a.k + 260 * a.counters.n - a.counters.n * a.k ≡ 260 * a.counters.n = omega arith in
    let room = p.2 in
    met_in p.0 p.1 _ room e c.copy_all.ensures.after _ c.meet_all.ensures
