-- `renewals::renew_lists` meets its contract: lists gathered in scratch, pairs unvisited, the lists copied. Assumes nothing.
use mathlib.Core.Path.{◌≡◌}
use Prim.Native.Nat.{◌+◌, ◌-◌, ◌*◌}
use native.Mathlib.Omega.{arith}
use Rattle.renewals.proofs.Whole.{walkable, lists-renewed}
use Rattle.renewals.proofs.renew_lists.Goals as goal

pub unvisit_all-requires : goal.unvisit_all-requires
unvisit_all-requires c =
    let p = c.requires in
    let R = c.renew_all-drawn.ensures in
    let L = p.0 in
    let long = R.long in
    let room = p.3 in
    (L.few, L.words, walkable _ _ _ _ L R (omega arith) p.1)

pub returns : goal.returns
returns c =
    let p = c.requires in
    let a = c.args in
    let R = c.renew_all-drawn.ensures in
    let long = R.long in
    let room = p.3 in
    let e : a.n * a.k + 260 * a.n - a.n * a.k ≡ 260 * a.n = omega arith in
    lists-renewed _ _ _ _ p.0 R (omega arith) c.unvisit_all.ensures e c.copy_all.ensures.after
