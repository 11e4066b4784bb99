-- `renewals::renew_state` meets its contract: new and old lists, then the two reversed lists. Assumes nothing.
use mathlib.Core.Path.{◌≡◌}
use Prim.Native.Nat.{◌+◌, ◌-◌, ◌*◌}
use native.Mathlib.Omega.{arith}
use Rattle.renewals.proofs.Whole.{old-room, old-lengths, old-draws, new-room, new-lengths, new-draws, state-renewed}
use Rattle.renewals.proofs.renew_state.Goals as goal

pub reverse-next-requires : goal.reverse-next-requires
reverse-next-requires c =
    let p = c.requires in
    let a = c.args in
    let L = p.0 in
    let A = c.renew_lists-drawn.ensures in
    let words = L.words in
    let long = A.long in
    let scratch = A.scratch_long in
    let room = p.4 in
    let e : a.n * a.k + 260 * a.n - a.n * a.k ≡ 260 * a.n = omega arith in
    record { n_bound = (L.few, p.2, omega arith, omega arith, old-room _ _ _ _ L A e, old-lengths _ _ _ _ L A e p.1 p.3, omega arith); at_bound = old-draws _ _ _ _ L A e p.1 p.3 }

pub reverse-requires : goal.reverse-requires
reverse-requires c =
    let p = c.requires in
    let a = c.args in
    let L = p.0 in
    let A = c.renew_lists-drawn.ensures in
    let B = c.reverse-next.ensures in
    let scratch = A.scratch_long in
    let scratch2 = B.scratch_long in
    let room = p.4 in
    let e : a.n * a.k + 260 * a.n - a.n * a.k ≡ 260 * a.n = omega arith in
    record { n_bound = (L.few, p.2, omega arith, omega arith, new-room _ _ _ _ L A e B e, new-lengths _ _ _ _ L A e B e p.1 p.3, omega arith); at_bound = new-draws _ _ _ _ L A e B e p.1 p.3 }

pub returns : goal.returns
returns c =
    let p = c.requires in
    let a = c.args in
    let e : a.n * a.k + 260 * a.n - a.n * a.k ≡ 260 * a.n = omega arith in
    state-renewed _ _ _ _ p.0 c.renew_lists-drawn.ensures e c.reverse-next.ensures e c.reverse.ensures
