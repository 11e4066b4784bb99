-- `iterates::iterate_state` meets its contract: the meetings, then the renewal. Assumes nothing.
use native.Mathlib.Omega.{arith}
use Rattle.iterates.proofs.Iterating.{held, lent-on, iterated_in_lem}
use Rattle.iterates.proofs.iterate_state.Goals as goal

pub renew_state-new-requires : goal.renew_state-new-requires
renew_state-new-requires c =
    let p = c.requires in
    let M = c.meet_contexts-cost.ensures in
    let narrow = p.0.narrow in
    let small = p.2 in
    let long = M.scratch_long in
    let room = p.4 in
    (lent-on p.0 p.1 M, held p.0 p.1 M, omega arith, p.3, omega arith)

pub returns : goal.returns
returns c =
    let p = c.requires in
    iterated_in_lem p.0 p.1 c.meet_contexts-cost.ensures _ _ c.renew_state-new.ensures
